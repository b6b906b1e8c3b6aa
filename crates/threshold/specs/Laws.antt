-- Laws of the policy: its counts, its decisions, and the slim sets of its query.
pub mod Taken
pub mod Numbers
pub mod Holds
pub mod Reached
