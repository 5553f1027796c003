pub mod Terms
pub mod Merges
pub mod Flats
pub mod Places
pub mod Lowers
pub mod Layers
pub mod Models
