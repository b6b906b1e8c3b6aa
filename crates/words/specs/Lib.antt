-- The models of the 64 sets of a word.
pub mod Models
pub mod Plan
pub mod Known
pub mod Laws
