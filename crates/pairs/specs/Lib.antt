-- What `reprice` prints for the bytes of two files; Laws has what is shown of it, and Cases two files computed.
pub mod Texts
pub mod Claim
pub mod Laws
pub mod Cases
