-- What the cost of a set is bounded by, and that a proper subset costs less.
pub mod Cost
pub mod Sums
