pub mod Trees
pub mod Theories
pub mod Refusals
pub mod Tellings
pub mod Answers
