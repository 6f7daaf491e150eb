pub mod Told
pub mod Hops
pub mod Dealt
pub mod Columns
pub mod Laws
pub mod Existing
pub mod Examples
pub mod Reports
