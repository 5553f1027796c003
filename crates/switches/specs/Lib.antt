pub mod Switches
pub mod Places
pub mod Forcing
pub mod Tells
