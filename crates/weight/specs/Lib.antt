-- The cost of a set, and the slim sets and the best one, computed; Laws says what a set more or less costs.
pub mod Cost
pub mod Slim
pub mod Laws
