pub mod Ending
pub mod Answers
pub mod Exit
pub mod Speaks
pub mod Stages
pub mod Way
