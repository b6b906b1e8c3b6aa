-- The writer: what it returns and leaves in the buffer, and what is claimed of the files that it writes; Laws proves it.
pub mod Writing
pub mod Claim
pub mod Cases
pub mod Laws
