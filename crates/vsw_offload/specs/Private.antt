pub mod Reading
pub mod Writing
pub mod Finding
pub mod Saying
pub mod Making
pub mod Noting
pub mod Heading
