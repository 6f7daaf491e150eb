pub mod LayerSharing
pub mod Stays
pub mod Firsts
pub mod Orders
pub mod Keeps
pub mod Counts
pub mod Alone
pub mod At
pub mod Ascending
pub mod Sharing
pub use Rattle.vsw_classify.proofs.Firsts as LayerFirsts
