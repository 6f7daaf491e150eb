pub mod Harbour
pub mod Standing
pub mod Working
pub mod Meeting
pub mod Steps
pub mod Able
pub mod Mustered
pub mod Opening
pub use Rattle.vsw_dock.specs.Docks
pub use Rattle.vsw_dock.specs.Opening as HarbourOpening
pub use Rattle.vsw_dock.specs.Seen
pub use Rattle.vsw_dock.specs.Ports
pub use Rattle.vsw_dock.specs.Lane
pub use Rattle.vsw_dock.specs.Rounds
pub use Rattle.vsw_dock.specs.Meeting as DockMeeting
pub use Rattle.vsw_dock.specs.LiveMeeting
pub use Rattle.vsw_dock.specs.Deal
pub use Rattle.vsw_dock.specs.Work
pub use Rattle.vsw_dock.specs.DealWork
pub use Rattle.vsw_many.specs.Crew
pub use Rattle.vsw_many.specs.Turns
pub use Rattle.vsw_dock.specs.ActorsDone as Actors
pub use Rattle.vsw_dock.specs.Lanes
pub use Rattle.vsw_dock.specs.Rows
pub use Rattle.vsw_dock.specs.Placed
pub use Rattle.vsw_dock.specs.Actors as ManyActors
pub use Rattle.vsw_dock.specs.Passes
pub use Rattle.vsw_dock.specs.Phases
