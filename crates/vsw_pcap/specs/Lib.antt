pub mod Capture
pub mod Reader
pub mod Cutting
pub mod Progress
pub mod Fault
pub mod Decides
pub mod Batch
pub mod Marks
