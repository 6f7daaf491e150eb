pub mod Desks
pub mod Trials
