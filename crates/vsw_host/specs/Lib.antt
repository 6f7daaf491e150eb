pub mod Outside
pub mod Reading
pub mod Real
pub mod Told
pub mod Source
pub mod Memory
pub mod Files
pub mod MemoryInside
