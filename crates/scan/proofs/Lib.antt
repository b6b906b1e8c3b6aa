-- The arrays and the loops of the scan.
pub mod Listed
pub mod Arrays
pub mod Loops
