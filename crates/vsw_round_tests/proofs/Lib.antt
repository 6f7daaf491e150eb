pub mod Answered
pub mod Asking
pub mod Lives
pub mod Obeyed
pub mod Passed
pub mod Workers
