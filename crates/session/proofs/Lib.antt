pub mod Moved
pub mod Leads
pub mod Asks
pub mod Literals
pub mod Playing
pub mod Single
