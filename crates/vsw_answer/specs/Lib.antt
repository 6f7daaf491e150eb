pub mod Answers
pub mod Answered
pub mod Transit
pub mod Fate
pub mod Seen
pub mod Private
