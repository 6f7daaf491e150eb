pub mod Hands
pub mod Private
