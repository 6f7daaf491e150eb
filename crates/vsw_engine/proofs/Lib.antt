pub mod Lines
pub mod Answers
pub mod Parts
pub mod Sources
pub mod Batches
pub mod Beginning
