-- When two policies are comparable; Laws says that the test of it is right.
pub mod Comparable
pub mod Laws
