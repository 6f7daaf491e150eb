pub mod Commands
pub mod Lines
pub mod Line
pub mod Command
pub mod Verb
pub mod Good
