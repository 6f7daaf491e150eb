pub mod Commands
pub mod Life
pub mod OnePacket
pub mod Replies
pub mod Carrying
pub mod Refusing
pub mod Adding
