-- Laws that the proofs of the functions cite.
pub mod Found
pub mod Written
