-- The sets that clear, by words, and the slim ones among them.
pub mod Slims
