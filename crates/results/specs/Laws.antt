-- What a result is, that the list in its text is that of the slim sets, and that every text fits 80,000 bytes.
pub mod Worked
pub mod Listed
pub mod Fits
pub mod Texts
