-- Laws that a proof cites.
pub mod Lengths
