-- Bit by bit, words are tests; and words closed under the rules of each level are the model of each set below it.
pub mod Bits
pub mod Grown
pub mod Again
pub mod Level
pub mod Right
pub mod Room
pub mod Settled
