-- A repriced action does what Reprices says, of two comparable policies one has a weight raised, and the calls answer so.
pub mod Reweighed
pub mod Costs
pub mod Unmoved
pub mod Choices
pub mod Effect
pub mod Either
pub mod Means
use Rattle.repricing.specs.Reprices.{RepricedAction}
use Effect.{reprices}
use Either.{raised_either}

pub repriced_action : RepricedAction
repriced_action = record { raises = reprices; either = raised_either }
