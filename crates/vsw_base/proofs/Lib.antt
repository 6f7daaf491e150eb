pub mod Same
pub mod Stacks
pub mod Truths
pub mod Numbers
pub mod Readings
pub mod Dropped
pub mod Octets
pub mod Colons
