-- What `reprice` prints is what the call returns, and every text fits 64 bytes.
pub mod Files
pub mod Fits
