pub mod Partitions
pub mod Layers
