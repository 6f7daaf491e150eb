pub mod Actors
pub mod Ends
pub mod Lanes
pub mod Private
pub mod Rows
pub mod Deal
pub mod Picks
pub mod Going
pub mod Handed
pub mod Work
pub use Rattle.vsw_many.specs.Actors as ManyActors
pub use Rattle.vsw_many.specs.Passes
pub use Rattle.vsw_many.specs.Phases
pub use Rattle.vsw_many.specs.Rounds
pub use Rattle.vsw_history_law.specs.Plain
