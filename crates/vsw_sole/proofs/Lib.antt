pub mod Callers
pub mod Crossed
pub mod Opened
pub mod Listed
