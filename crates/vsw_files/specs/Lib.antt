pub mod Opened
pub mod Early
pub mod Claimed
pub mod Answering
pub mod Private
