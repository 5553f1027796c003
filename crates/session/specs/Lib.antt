pub mod Calls
pub mod Steps
pub mod Law
pub mod Runs
pub mod Replies
pub mod Tells
pub mod Led
pub mod LedBy
