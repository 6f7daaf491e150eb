pub mod Handing
pub mod Hops
pub mod Law
pub mod Exist
