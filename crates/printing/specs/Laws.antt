-- Laws of the texts.
pub mod Fits
pub mod Rewritten
pub mod Longest
