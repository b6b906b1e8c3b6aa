-- The facts that a plan and its words hold have at most one proof.
use Rattle.std.specs.Prelude.{ℕ, Option, Some, None, ◌^◌, List, ◌≡◌, get_or}
use Rattle.std.proofs.Props.{props}
use Rattle.base.specs.Lists.{table}
use Rattle.policy.specs.declared.Policy.{Policy}
use Rattle.policy.specs.declared.Query.{Query}
use Rattle.policy.specs.Questions.{Accepted}
use Rattle.model.specs.World.{world_in}
use Rattle.order.specs.Laws.Props.{Ordered-prop, Used-prop}
use Rattle.words.specs.Models.{word_of}
use Rattle.words.specs.Known.{Known}
use Rattle.words.specs.Plan.{Planned}

module _ (p : Policy) (q : Query) where
  pub Accepted-prop : IsProp (Accepted p q)
  unfolding Accepted
  Accepted-prop = hlevel props

  pub Planned-prop : (base : ℕ) (leads order start uses : List ℕ) → IsProp (Planned p q base leads order start uses)
  Planned-prop base leads order start uses x y =
      let based : IsProp (base ≡ world_in p.action p.actions q.done 0) = hlevel props in
      let led : IsProp (leads ≡ table 16 (λ a. world_in p.action p.actions 0 (2 ^ a))) = hlevel props in
      λ i. record {
        based = based x.based y.based i;
        led = led x.led y.led i;
        ordered = Ordered-prop p order start x.ordered y.ordered i;
        used = Used-prop p order uses x.used y.used i;
      }

  pub Known-prop : (known : List (Option ℕ)) → IsProp (Known p q known)
  Known-prop known x y =
      let right : IsProp ((w word : ℕ) → get_or known w None ≡ Some word → word ≡ word_of p q w q.want) = hlevel props in
      λ i. record { right = right x.right y.right i }
