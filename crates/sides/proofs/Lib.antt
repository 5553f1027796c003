pub mod Worlds
pub mod Shares
pub mod Pairs
pub mod Tellings
pub mod Calls
