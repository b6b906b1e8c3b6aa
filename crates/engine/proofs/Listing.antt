-- What List writes: the sets that the survey's words mark as slim.
use Prim.Native.Nat.{ℕ, ◌*◌, ◌≤◌}
use Rattle.std.proofs.Common.{◌≡◌, ◌∙◌, ap, arith, List, length, take, Option}
use Rattle.std.proofs.lemmas.List.{length-take-le}
use Rattle.mask.specs.Family.{among, minimal}
use Rattle.policy.specs.declared.Policy.{Policy}
use Rattle.policy.specs.declared.Query.{Query}
use Rattle.policy.specs.Questions.{Accepted}
use Rattle.covers.specs.Covers.{word_count, Table, marked_in}
use Rattle.covers.specs.Laws.Marks.{words_few}
use Rattle.weight.specs.Cost.{cost_of}
use Rattle.words.specs.declared.plan.Plan.{Plan}
use Rattle.survey.specs.declared.Found.{Found}
use Rattle.survey.specs.Survey.{family, SoFar, slims}
use Rattle.survey.specs.Laws.Slims.{words_marked}
use Rattle.survey.proofs.Surveyed.{sofar_slim}
use Rattle.engine.specs.Calls.{slim_sets, best}

-- the survey of an accepted query: what was found, and a table that marks the slim sets
pub record Listing (p : Policy) (q : Query) (found : Option Found) (table : List ℕ) : Type 0 where
  pub ok : Accepted p q
  pub sofar : SoFar (cost_of p) found (length (slim_sets p q)) (best p q)
  pub marks : Table (minimal (family p q)) (word_count p.actions) table

-- as the survey promises it of a plan for the query
pub surveyed : {p : Policy} {q : Query} {plan of : Plan} {found : Option Found} {table : List ℕ}
    → record { same_policy : plan.policy ≡ p; same_query : plan.query ≡ q } → of ≡ plan
    → SoFar (cost_of of.policy) found (length (slim_sets of.policy of.query)) (best of.policy of.query)
    → Table (minimal (family of.policy of.query)) (word_count of.policy.actions) table → Listing p q found table
surveyed {of = of} same e sofar marks =
    let policy = ap (λ (x : Plan). x.policy) e ∙ same.same_policy in
    let query = ap (λ (x : Plan). x.query) e ∙ same.same_query in
    record { ok = rw (policy, query) at of.accepted; sofar = rw (policy, query) at sofar; marks = rw (policy, query) at marks }

module _ {p : Policy} {q : Query} {found : Option Found} {table : List ℕ} (so : Listing p q found table) where
  -- the number found is that of the slim sets
  pub slims_counted : slims found ≡ length (slim_sets p q)
  slims_counted = sofar_slim so.sofar

  -- the words that hold the policy's sets
  module _ {n : ℕ} (words : n ≡ word_count p.actions) where
    pub words_within : n ≤ 1024
    words_within = omega (arith, words, words_few p q so.ok)

    pub words_long : length (take n table) ≡ n
    words_long = length-take-le n table (omega (arith, so.marks.size, words_within))

    -- and the sets that they mark
    pub words_mark : among (marked_in (take n table)) (64 * length (take n table)) ≡ slim_sets p q
    words_mark = words_marked p q table (take n table) so.marks (words_few p q so.ok) (ap (λ k. take k table) words)
