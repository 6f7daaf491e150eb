pub mod Going
pub mod Ends
pub mod Written
pub mod CallerLemmas
pub mod Pieces
pub mod Held
pub mod MemoryCalls
