-- The lowest levels that fit; Laws proves that they are, Cases computes those of document 01's run.
pub mod Levels
pub mod Laws
pub mod Cases
