pub mod Once
pub mod GoneAtPort
pub mod Steps
pub mod ToldPorts
mod Texts
mod Taking
mod Idle
mod Meets
mod Quiet
mod Asking
mod Doing
mod Joining
mod Gone
mod Told
mod Between
mod Carrying
mod ByRing
mod Sharing
mod Giving
mod Picking
mod Owing
mod Returning
mod Shifts
mod Outgoing
mod Handing
mod Incoming
mod Closing
pub mod Sending
pub use Rattle.vsw_switch.proofs.Totals
pub use Rattle.vsw_switch.proofs.Running
