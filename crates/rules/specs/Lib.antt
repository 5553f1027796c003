pub mod Rules
pub mod Openness
pub mod Walks
pub mod Laws
pub mod Marks
