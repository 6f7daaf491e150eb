pub mod Format
pub mod Standing
pub mod Finding
pub mod Unique
pub mod Every
pub mod Runs
pub mod Decided
pub mod Marked
