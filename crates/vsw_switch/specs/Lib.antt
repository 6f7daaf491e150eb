pub mod Tally
pub mod Switch
pub mod Does
pub mod Close
pub mod Stay
pub mod Round
pub mod Steps
pub mod Export
