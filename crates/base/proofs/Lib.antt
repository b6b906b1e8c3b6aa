-- Laws that the proofs of loops cite, in the crates above.
pub mod Every
pub mod Tabling
pub mod Making
pub mod Steady
