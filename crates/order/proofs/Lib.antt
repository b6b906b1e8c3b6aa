-- What the proofs of `note` cite.
pub mod Noting
