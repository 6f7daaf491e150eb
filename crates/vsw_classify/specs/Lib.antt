pub mod Place
pub mod Private
pub mod Groups
