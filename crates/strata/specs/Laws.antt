-- How rules raise levels, and that what is found is the lowest.
pub mod Raised
pub mod Levels
