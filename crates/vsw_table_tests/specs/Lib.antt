pub mod Whole
pub mod Flows
