-- What a turn does to what is found, and to what is written.
pub mod Filtering
pub mod Surveyed
pub mod Written
