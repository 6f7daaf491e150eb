pub mod Law
pub mod Files
pub mod Given
pub mod Fits
