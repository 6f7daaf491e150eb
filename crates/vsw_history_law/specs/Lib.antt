pub mod MergingLaw
pub mod Cover
pub mod Law
pub mod AgreementLaw
pub mod Plain
pub mod OneLine
pub mod Short
