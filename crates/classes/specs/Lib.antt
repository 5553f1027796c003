pub mod Classes
pub mod Worlds
