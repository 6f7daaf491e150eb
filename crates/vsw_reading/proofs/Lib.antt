pub mod Pieces
pub mod Steps
pub mod Splitting
pub mod Passing
pub mod Open
pub mod Staying
