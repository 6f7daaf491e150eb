pub mod Private
pub mod Places
pub mod Rules
pub mod Steps
pub mod Held
pub mod Answers
