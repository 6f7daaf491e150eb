pub mod Ends
pub mod Under
pub mod Passing
pub mod Fasts
pub mod Answered
pub mod Openings
pub mod Names
pub mod Sharing
