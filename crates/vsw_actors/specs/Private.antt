-- What contracts of private functions are of. No caller need read it.
pub mod Reconciling
pub mod Rows
pub mod Seats
pub mod Aims
