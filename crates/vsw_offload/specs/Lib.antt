pub mod Rows
pub mod Bad
pub mod Answered
pub mod Exact
pub mod Private
