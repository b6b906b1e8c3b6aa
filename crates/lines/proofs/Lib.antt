-- Laws that the proofs of the functions cite.
pub mod Bytes
pub mod Numbers
pub mod OneMore
pub mod Parts
