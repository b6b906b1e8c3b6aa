-- What the proofs of the policy cite.
pub mod Counts
pub mod Filling
