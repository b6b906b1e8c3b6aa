-- The policy whose query has the most slim sets; Laws says what is in its models, and which sets are slim.
pub mod AtLeast
pub mod Laws
