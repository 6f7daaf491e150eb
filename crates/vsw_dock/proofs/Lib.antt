pub mod Docked
pub mod Leaving
pub mod Placing
pub mod Resting
pub mod Same
pub mod Working
pub mod Sharing
pub use Rattle.vsw_actors.proofs.Steps
pub use Rattle.vsw_actors.proofs.Doing
pub use Rattle.vsw_actors.proofs.Ending
pub use Rattle.vsw_actors.proofs.Hops
pub use Rattle.vsw_actors.proofs.Lanes as ActorLanes
pub use Rattle.vsw_actors.proofs.Actors
pub use Rattle.vsw_actors.proofs.Dealing
pub use Rattle.vsw_actors.proofs.Passes
pub use Rattle.vsw_actors.proofs.ManyRounds as Rounds
pub use Rattle.vsw_hairpin.proofs.Laws as HopLaws
pub use Rattle.vsw_hairpin.proofs.Hops as HairpinHops
