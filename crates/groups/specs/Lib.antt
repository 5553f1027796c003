pub mod Groups
pub mod Tables
