pub mod Growing
pub mod Limits
pub mod Reading
pub mod Opening
pub mod Wholes
pub mod Tracing
pub mod RowsRead
