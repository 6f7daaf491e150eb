-- What contracts of private functions are of. No caller need read it.
pub mod Tasks
pub mod Lines
pub mod Runs
pub mod Rounds
