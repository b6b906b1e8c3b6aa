-- The claim of the writer holds.
pub mod Room
pub mod Saved
pub mod Alike
pub mod Drafts
use Rattle.writer.specs.Claim.{Saves}
use Saved.{short, write_means, whole}
use Alike.{same}

pub saves : Saves
saves = record { back = λ p qs ok before. write_means p qs before (λ _. ok); short = short; same = same; whole = whole }
