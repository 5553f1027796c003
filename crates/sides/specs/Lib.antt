pub mod Sides
pub mod Pairs
pub mod Tellings
pub mod Calls
