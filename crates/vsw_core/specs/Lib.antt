pub mod Core
pub mod Calls
pub mod Publishing
pub mod Reconciling
pub mod Walks
pub mod Exporting
pub mod Private
