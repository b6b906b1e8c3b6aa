-- What is claimed of the file that the program writes, and of every list; Laws proves the claim.
pub mod Claim
pub mod Laws
