-- What contracts of private functions are of. No caller need read it.
pub mod Rank
pub mod Entry
pub mod Search
pub mod Layer
