pub mod Least
pub mod PrefixLeast
pub mod Span
pub mod Chain
pub mod RangeLeast
pub mod Block
pub mod Near
