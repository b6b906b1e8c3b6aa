-- There are at most 12,870 slim sets: none is a subset of another, and there are at most 16 actions. At most 128 rules fire.
use Prim.Native.Nat.{ℕ, zero, suc, ◌/◌, ◌^◌, ◌≤◌, zero-le}
use Rattle.std.specs.Prelude.{Bool, true, false, List, [], ◌≡◌, refl, length, replicate, Ok, Err}
use Rattle.std.proofs.Common.{sym, ◌∙◌, arith}
use Rattle.std.proofs.Math.Decide.{ℕ_discrete}
use Rattle.std.proofs.lemmas.List.{length-replicate}
use Rattle.base.specs.Counted.{counted}
use Rattle.base.specs.Lists.{filled}
use Rattle.base.specs.Laws.Lists.{filled_length}
use Rattle.mask.specs.Mask.{sized}
use Rattle.mask.specs.Laws.Sperner.{Antichain, sperner, middle_few}
use Rattle.mask.specs.Laws.Among.{among_counted}
use Rattle.mask.specs.Laws.Minimal.{minimal_taken, minimal_least}
use Rattle.policy.specs.declared.Policy.{Policy}
use Rattle.policy.specs.declared.refusal.Refusal.TheVariants.{ListTooShort}
use Rattle.policy.specs.Refusal.{refuse}
use Rattle.policy.specs.Laws.Refusals.{number_of_refusal}
use Rattle.policy.specs.declared.Query.{Query}
use Rattle.policy.specs.Questions.{first_no, query_in_range, query_questions, Accepted}
use Rattle.policy.specs.Laws.{accepted_range, first_no_few}
use Rattle.model.specs.World.{world_of}
use Rattle.model.specs.Fire.{up_to, fired_of}
use Rattle.model.specs.Laws.Marks.{holds}
use Rattle.model.specs.Laws.Strata.{stratified}
use Rattle.model.specs.Laws.Levels.{good_up_to}
use Rattle.engine.specs.declared.Firing.{Firing}
use Rattle.engine.specs.Sets.{most_slim}
use Rattle.engine.specs.Calls.{clears, slim, slim_sets, list_questions, list_of, fired_for, offer_questions, refused_or, fire_of}
use Rattle.engine.specs.Laws.Refusals.{answered, refused, list_early, list_yes, offer_accepted}

module _ (p : Policy) (q : Query) where
  -- no slim set is a subset of another
  slim_apart : (n : ℕ) → Antichain (slim p q) n
  unfolding slim
  slim_apart n a b h k s t sub = elim (ℕ_discrete a b) [
    | yes e ↦ e
    | no ne ↦ absurd (minimal_least (clears p q) b t a sub ne (minimal_taken (clears p q) a s))
  ]

  -- so of m actions there are no more slim sets than sets of m / 2 actions
  pub few_slim_of : length (slim_sets p q) ≤ counted (sized (p.actions / 2)) (2 ^ p.actions)
  unfolding slim_sets
  few_slim_of = rw among_counted (sperner (slim p q) p.actions (slim_apart p.actions))

module _ (p : Policy) (q : Query) (ok : Accepted p q) where
  pub few_slim : length (slim_sets p q) ≤ most_slim
  few_slim = omega (arith, few_slim_of p q, middle_few p.actions (accepted_range p q ok).actions)

  -- so List is not refused where it is lent so many places or more
  pub list_has_room : (places : ℕ) → most_slim ≤ places → list_of p q places ≡ Ok (length (slim_sets p q))
  unfolding list_of
  list_has_room places h = answered (first_no (list_questions p q places)) _ _ (list_yes p q places ok (omega (arith, few_slim)))

  -- at most 128 rules fire
  few_fired : (s : ℕ) → length (fired_for p q s) ≤ 128
  unfolding fired_for fired_of
  few_fired s = go (holds (up_to p w q.want 16) q.want)
    where
      w : ℕ
      w = world_of p q.done s

      fired : List ℕ
      fired = (up_to p w q.want 16).fired

      go : (b : Bool) → length {A = ℕ} (elim b [ true ↦ fired | false ↦ [] ]) ≤ 128
      go true = omega (arith, (good_up_to p w q.want (stratified p q ok) 16).count)
      go false = zero-le

-- so a list of so many places is never refused by 8, whatever the policy and the query
pub never_eight : (p : Policy) (q : Query) (places : ℕ) → most_slim ≤ places → ¬ (list_of p q places ≡ Err ListTooShort)
unfolding list_of Accepted
never_eight p q places h e = elim (ℕ_discrete (first_no (query_questions p q)) 0) [
  | yes ok ↦
      let listed = list_has_room p q ok places h in
      let z : ◌≡◌ {A = ℕ} 0 1 = cc in omega arith
  | no other ↦
      let early = list_early p q places other in
      let by = refused (first_no (list_questions p q places)) refuse (Ok (length (slim_sets p q))) (λ z. other (sym early ∙ z)) in
      let same : refuse {A = ℕ} (first_no (list_questions p q places)) ≡ Err ListTooShort = sym by ∙ e in
      let first = number_of_refusal (first_no (list_questions p q places)) (λ z. other (sym early ∙ z)) (omega (arith, first_no_few p (query_in_range p q))) in
      let eighth : first_no (list_questions p q places) ≡ 8 = cc in
      omega (arith, first_no_few p (query_in_range p q))
]

-- so Fire's list has 128 places, whatever is offered
pub fire_places : (p : Policy) (q : Query) (s : ℕ) → length (fire_of p q s).rules ≡ 128
unfolding fire_of refused_or
fire_places p q s = go (first_no (offer_questions p q s)) (λ e. few_fired p q (offer_accepted p q s e).0 s)
  where
    fired : List ℕ
    fired = fired_for p q s

    answer : Firing
    answer = record { refusal = 0; count = length fired; rules = filled 128 0 fired }

    go : (n : ℕ) → (n ≡ 0 → length fired ≤ 128)
        → length (refused_or n (λ n. record { refusal = n; count = 0; rules = replicate 128 0 }) answer).rules ≡ 128
    go zero few = filled_length 128 0 fired (few refl)
    go (suc n) few = length-replicate {A = ℕ} 128 0
