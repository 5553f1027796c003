pub mod Parents
pub mod Merging
pub mod Visits
pub mod Settling
pub mod Firsts
