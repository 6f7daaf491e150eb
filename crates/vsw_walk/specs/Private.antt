-- What contracts of private functions, and the invariant of the scratch, are of. No caller of `walk` need read it.
pub mod Slots
