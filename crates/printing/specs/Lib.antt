-- The texts that `levels`, `rewrite` and `longest` print; Laws says that each fits its buffer, and what the reader makes of them.
pub mod Texts
pub mod Laws
