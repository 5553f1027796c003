pub mod Literals
pub mod Bests
pub mod Trials
pub mod Asks
