-- What contracts of private functions are of. No caller need read it.
pub mod Cut
pub mod Pauses
pub mod SoFar
pub mod Going
pub mod Next
pub mod Ahead
pub mod Leading
pub mod Begun
pub mod Streaming
pub mod Exporting
pub mod Runner
