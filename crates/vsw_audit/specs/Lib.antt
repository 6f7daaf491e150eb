pub mod Check
pub mod Order
pub mod Replay
pub mod Audit
pub mod Private
