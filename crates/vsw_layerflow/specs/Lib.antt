pub mod Track
pub mod Pairs
pub mod Life
pub mod Index
pub mod Hashed
pub mod Point
