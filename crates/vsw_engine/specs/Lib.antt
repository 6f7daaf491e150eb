pub mod Runs
pub mod Private
