-- What `clear` prints for a file's bytes; Laws has what is shown of it, and Cases document 01's run.
pub mod Printed
pub mod Laws
pub mod Cases
