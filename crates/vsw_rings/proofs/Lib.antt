pub mod Handed
pub mod Staying
