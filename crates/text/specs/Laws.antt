-- Texts put one behind the other, lists that are put entry by entry, texts handed out one at a time, and a refusal as the one text.
pub mod Putting
pub mod Pens
pub mod Entries
pub mod Handed
pub mod Refused
