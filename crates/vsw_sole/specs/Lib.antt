pub mod Sole
pub mod Callers
