-- What contracts of private functions are of. No caller need read it.
pub mod Lines
pub mod Going
