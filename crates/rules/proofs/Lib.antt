pub mod Basics
pub mod Moved
pub mod Sound
pub mod Counts
pub mod Fixed
pub mod Readiness
pub mod Theorems
