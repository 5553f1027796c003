pub mod Refusals
pub mod Rows
pub mod Answers
pub mod Models
pub mod Indexes
