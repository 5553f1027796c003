pub mod Towers
pub mod Sames
pub mod Trues
pub mod Lists
pub mod Counts
