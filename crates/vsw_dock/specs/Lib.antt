pub mod Docks
pub mod Laws
pub mod Meeting
pub mod Opening
pub mod Seen
pub mod Private
pub use Rattle.vsw_live.specs.Meeting as LiveMeeting
pub use Rattle.vsw_live.specs.Ports
pub use Rattle.vsw_actors.specs.Work
pub use Rattle.vsw_actors.specs.declared.work.Work as DealWork
pub use Rattle.vsw_actors.specs.Lanes
pub use Rattle.vsw_actors.specs.declared.lane.Lane
pub use Rattle.vsw_actors.specs.ManyActors as Actors
pub use Rattle.vsw_actors.specs.Passes
pub use Rattle.vsw_actors.specs.Phases
pub use Rattle.vsw_actors.specs.Rounds
pub use Rattle.vsw_actors.specs.Deal
pub use Rattle.vsw_actors.specs.Actors as ActorsDone
pub use Rattle.vsw_actors.specs.Rows
pub use Rattle.vsw_actors.specs.declared.actor.Placed
pub use Rattle.vsw_hairpin.specs.Handing
pub use Rattle.vsw_actors.specs.Plain
