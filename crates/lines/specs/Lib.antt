-- What a reader hands back, as an outcome of the parsers.
pub mod Outcomes
