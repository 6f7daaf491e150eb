-- What contracts of private functions are of, and that of `asked`. No caller of `choose` need read it.
pub mod FromEnd
