pub mod Admit
pub mod Long
pub mod Holds
pub mod AdmissionLaw
pub mod Walked
pub mod Private
pub mod Cross
pub mod Can
pub mod CommitLaw
pub mod Fate
pub use Rattle.vsw_walk.specs.Known
pub use Rattle.vsw_walk.specs.Visit
pub use Rattle.vsw_walk.specs.Wanted
pub use Rattle.vsw_walk.specs.declared.outcome.Visit as VisitOutcome
pub use Rattle.vsw_walk.specs.declared.outcome.Want
pub use Rattle.vsw_walk.specs.Walk
pub use Rattle.vsw_walk.specs.declared.scratch.Wanted as WalkWanted
pub use Rattle.vsw_frame.specs.Bytes
pub mod Calls
pub mod History
pub mod Next
pub mod Order
pub mod Sample
pub mod Share
pub mod Core
pub mod Crossed
pub mod Ledger
