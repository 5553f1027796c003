pub mod Apart
pub mod Free
pub mod Decides
pub mod Numbers
pub mod Tells
