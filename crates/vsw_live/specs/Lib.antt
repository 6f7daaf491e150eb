pub mod Calls
pub mod Seen
pub mod Ports
pub mod Meeting
pub mod Private
