pub mod Cuts
pub mod Commands
pub mod LinesRead
pub mod CutLines
