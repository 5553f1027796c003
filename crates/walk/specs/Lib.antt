pub mod Written
pub mod Picks
pub mod Walked
