-- An order of the rules by level, and that swaps keep it.
pub mod Order
pub mod Laws
