-- The file's text: how numbers, lists and lines are spelt, and what text states a record; Laws proves that they read each other.
pub mod Bounds
pub mod Text
pub mod Parser
pub mod Format
pub mod Entries
pub mod Written
pub mod Laws
