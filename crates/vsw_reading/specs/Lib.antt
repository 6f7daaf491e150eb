pub mod Reads
pub mod Passed
pub mod Private
