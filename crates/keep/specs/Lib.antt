-- The keep-off mask of a set, and how a table of marks finds it.
pub mod Keep
pub mod Search
pub mod Laws
