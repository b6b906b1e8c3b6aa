-- What a survey goes over and what it has found so far; Laws says that its slim sets are those of the query.
pub mod Survey
pub mod Laws
