-- Bit by bit, what the words of the sets say.
pub mod Columns
pub mod Picked
pub mod Offered
pub mod Holding
pub mod Spread
pub mod Worlds
pub mod Needed
