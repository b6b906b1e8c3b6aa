-- The places that are lent are always enough: the list in the text is that of the slim sets.
use Rattle.std.specs.Prelude.{ℕ, ◌≤◌, ◌≡◌, length, drop, replicate}
use Rattle.std.proofs.Common.{le_refl}
use Rattle.std.proofs.lemmas.List.{length-replicate}
use Rattle.std.proofs.Math.Seq.{take-append_seam}
use Rattle.policy.specs.declared.Policy.{Policy}
use Rattle.policy.specs.declared.Query.{Query}
use Rattle.policy.specs.Questions.{Accepted}
use Rattle.engine.specs.Sets.{most_slim}
use Rattle.engine.specs.Calls.{slim_sets}
use Rattle.engine.specs.Laws.{claim_holds}
use Rattle.engine.specs.Laws.Few.{few_slim, list_has_room}
use Rattle.results.specs.Printed.{written, sets_listed}

module _ (p : Policy) (q : Query) (ok : Accepted p q) where
  room : length (slim_sets p q) ≤ length (replicate {A = ℕ} most_slim 0)
  room = rw length-replicate (few_slim p q ok)

  pub lists_slim : sets_listed p q ≡ slim_sets p q
  unfolding sets_listed written
  lists_slim = rw (list_has_room p q ok most_slim (le_refl most_slim), ((claim_holds p q ok).listed (replicate most_slim 0) room).1)
      (take-append_seam (slim_sets p q) (drop (length (slim_sets p q)) (replicate most_slim 0)))
