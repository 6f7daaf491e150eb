pub mod Rows
pub mod Sizes
pub mod Looks
pub mod Answered
pub mod Fates
pub mod Passes
