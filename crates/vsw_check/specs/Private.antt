-- What contracts of private functions are of. No caller need read it.
pub mod Machine
pub mod Built
pub mod Parts
pub mod Words
pub mod Decode
