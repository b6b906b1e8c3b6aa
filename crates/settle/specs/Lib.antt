-- The words of the decisions, settled level by level.
pub mod Words
pub mod Right
pub mod Laws
