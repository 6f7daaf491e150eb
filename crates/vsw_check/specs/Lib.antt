pub mod Report
pub mod Law
pub mod Private
