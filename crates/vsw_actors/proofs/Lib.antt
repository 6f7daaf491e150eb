pub mod Doing
pub mod Ending
pub mod Pieces
pub mod Hops
pub mod Lanes
pub mod Rounds
pub mod Seats
pub mod Turning
pub mod Picking
pub mod Sharing
pub mod Steps
pub use Rattle.vsw_many.proofs.Actors
pub use Rattle.vsw_many.proofs.Dealing
pub use Rattle.vsw_many.proofs.Passes
pub use Rattle.vsw_many.proofs.Rounds as ManyRounds
