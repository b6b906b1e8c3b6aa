-- What the proofs of the tests cite.
pub mod Tested
