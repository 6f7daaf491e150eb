pub mod Draws
pub mod Packets
pub mod Policy
pub mod Workload
