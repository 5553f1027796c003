pub mod Shapes
pub mod Sheets
pub mod Indexes
pub mod Walks
pub mod Models
