pub mod Lists
pub mod Rows
pub mod Values
pub mod Formed
pub mod Forced
