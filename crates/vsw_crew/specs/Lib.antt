pub mod Texts
pub mod Private
pub mod Crew
pub mod Told
pub mod Shares
pub mod Shift
pub mod StreamShares
pub mod Streams
pub use Rattle.vsw_switch.specs.Round
pub use Rattle.vsw_switch.specs.Close
pub use Rattle.vsw_switch.specs.Switch
pub use Rattle.vsw_switch.specs.Export
pub use Rattle.vsw_switch.specs.Tally
pub use Rattle.vsw_switch.specs.declared.tally.Tally as SwitchTally
