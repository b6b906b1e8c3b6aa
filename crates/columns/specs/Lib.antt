-- The 64 sets of a word: which have an action, which are offered, and which enable a rule.
pub mod Sets
pub mod Laws
