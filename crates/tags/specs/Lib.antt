pub mod Tags
pub mod Partitions
pub mod Layers
pub mod PartitionsLemmas
pub mod LayersLemmas
pub mod Tells
pub mod Histories
