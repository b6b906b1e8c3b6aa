-- The masks that the search may pass over, and what a turn of it does.
pub mod Leaps
pub mod Choosing
