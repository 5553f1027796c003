pub mod Sheets
pub mod Values
pub mod Trees
