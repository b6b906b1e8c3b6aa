-- From an order of the rules and the words of the sets that enable them to the model of each set.
use Rattle.std.specs.Prelude.{ℕ, ◌^◌, ◌≤◌, ◌<◌, Bool, ◌&&◌, ◌≡◌, eqb, ltb, get_or, replicate}
use mathlib.Core.List.{List, [], ◌∷◌}
use Rattle.std.proofs.Math.Path.{refl, ap, subst}
use Rattle.std.proofs.Common.{sym, ◌∙◌, arith, eqb→eq, lt→ltb}
use Rattle.std.proofs.Math.Dec.{T, T_not, not_T, ltb→lt}
use Rattle.std.proofs.Math.ListN.{length}
use Rattle.std.proofs.Math.Pow.{pow_mono}
use Rattle.base.specs.Lists.{table}
use Rattle.base.specs.Laws.Tables.{Tabled, table_only, table_at}
use Rattle.base.specs.Laws.Tests.{same, and_make, and_left, and_right}
use Rattle.mask.specs.Mask.{has, disjoint}
use Rattle.mask.specs.Laws.{has_none, ⊆→<}
use Rattle.mask.specs.Laws.Packed.{packed_lt, packed_bit, packed_only}
use Rattle.policy.specs.declared.Policy.{Policy}
use Rattle.policy.specs.declared.Query.{Query}
use Rattle.policy.specs.Questions.{Accepted}
use Rattle.policy.specs.Record.{rule_of, level_of}
use Rattle.policy.specs.Laws.{accepted_range}
use Rattle.model.specs.World.{world_in, world_of}
use Rattle.model.specs.Fire.{fired_of}
use Rattle.model.specs.Clears.{fired_for, enough, clears}
use Rattle.model.specs.Derivation.{Derivable}
use Rattle.model.specs.Laws.{fired_derives, decides, unfolds}
use Rattle.model.specs.Laws.Derived.{by_rules}
use Rattle.model.specs.Laws.Strata.{stratified}
use Rattle.columns.specs.Sets.{set_at, is_offered, offered_of, gathered, fours_of, needed_of}
use Rattle.columns.specs.Laws.Needed.{needed_bit}
use Rattle.order.specs.Order.{Ordered}
use Rattle.settle.specs.Right.{bit, Right, Enabling}
use Rattle.settle.specs.Laws.Right.{right_start}
use Rattle.words.specs.Models.{asking, bit_of, word_of, model_of}
use Rattle.words.specs.Plan.{Worked}

module _ (p : Policy) (q : Query) (ok : Accepted p q) (w : ℕ) (small : w ≤ 1023) where
  abbrev pub sets : ℕ
  sets = offered_of p.actions q.done w

  pub sets_lt : sets < 2 ^ 64
  unfolding offered_of
  sets_lt = packed_lt 64 (λ i. is_offered p.actions q.done (set_at w i))

  sets_bit : (i : ℕ) → i < 64 → has sets i ≡ is_offered p.actions q.done (set_at w i)
  unfolding offered_of
  sets_bit i h = packed_bit 64 (λ j. is_offered p.actions q.done (set_at w j)) i h

  -- the words of the code are those of the sets that enable the rules
  pub enabling_holds : {order start words fours leads : List ℕ} {base count : ℕ} → Ordered p order start
      → base ≡ world_in p.action p.actions q.done 0 → leads ≡ table 16 (λ a. world_in p.action p.actions 0 (2 ^ a))
      → fours ≡ fours_of (table 16 (gathered base leads w)) → count ≡ p.rules
      → Tabled (λ j. needed_of fours (rule_of p (get_or order j 0)).needs sets) 256 words count → Enabling p q w sets order words
  unfolding world_of
  enabling_holds {order} {start} {words} {fours} {leads} {base} sorted b l e c f = record {
    each = λ j h i. ap (λ (x : ℕ). has x i) (f.entries j (omega arith)
        ∙ ap (λ (x : List ℕ). needed_of x (rule_of p (get_or order j 0)).needs sets)
        (e ∙ ap (λ (x : ℕ). fours_of (table 16 (gathered x leads w))) b
        ∙ ap (λ (x : List ℕ). fours_of (table 16 (gathered (world_in p.action p.actions q.done 0) x w))) l))
        ∙ needed_bit p q ok q.done w small sets sets_lt (rule_of p (get_or order j 0)) (fits j h) i;
  }
    where
      fits : (j : ℕ) → j < p.rules → (rule_of p (get_or order j 0)).needs < 2 ^ 16
      fits j h = let range = accepted_range p q ok in
          omega (arith, (range.rule (get_or order j 0) (sorted.rules j h)).needs, pow_mono range.actions)

  pub enabling_given : {order start words fours leads : List ℕ} {base count given : ℕ} → Ordered p order start
      → base ≡ world_in p.action p.actions q.done 0 → leads ≡ table 16 (λ a. world_in p.action p.actions 0 (2 ^ a))
      → fours ≡ fours_of (table 16 (gathered base leads w)) → count ≡ p.rules → given ≡ sets
      → Tabled (λ j. needed_of fours (rule_of p (get_or order j 0)).needs given) 256 words count → Enabling p q w given order words
  enabling_given {order} {start} {words} {fours} {leads} {base} {count} sorted b l e c g = subst (λ (s : ℕ).
      Tabled (λ j. needed_of fours (rule_of p (get_or order j 0)).needs s) 256 words count → Enabling p q w s order words) (sym g)
      (enabling_holds sorted b l e c)

  -- where no set is offered
  right_none : (n : ℕ) → sets ≡ 0 → Right p q w sets n (replicate 128 0)
  right_none n e = let blank = right_start p q ok w sets in record {
    size = blank.size;
    within = blank.within;
    sound = blank.sound;
    complete = λ i s. absurd (has_none i (subst (λ (x : ℕ). T (has x i)) e s));
  }

  module _ (d s : ℕ) where
    abbrev world : ℕ
    world = world_of p q.done s

    -- only a decision of the policy has a derivation
    in_range_lem : Derivable p world d → d < p.decisions
    in_range_lem t =
        let (ks, v) = (unfolds p world (stratified p q ok) d).0 t in
        by_rules v (λ c. c < p.decisions) (λ k m a. ((accepted_range p q ok).rule k a.exists).head)

    -- with d as want, a set is enough exactly when d has a derivation in its world
    enough_there : T (enough p (asking q d) s) → Derivable p world d
    unfolding enough fired_for
    enough_there t =
        let r = fired_derives p world d (stratified p q ok) (λ e. T_not (eqb (length (fired_of p world d)) 0) t (rw e tt)) in
        (unfolds p world (stratified p q ok) d).1 (fired_of p world d, r)

    enough_back : Derivable p world d → T (enough p (asking q d) s)
    unfolding enough fired_for
    enough_back e = not_T (eqb (length (fired_of p world d)) 0) (λ t. (decides p world d (stratified p q ok)).0
        (empty (fired_of p world d) (eqb→eq (length (fired_of p world d)) 0 t)) e)
      where
        empty : (l : List ℕ) → length l ≡ 0 → l ≡ []
        empty [] e = refl
        empty (k ∷ l) e = absurd (omega arith)

  module _ {held : List ℕ} {n : ℕ} (good : Right p q w sets n held) (d i : ℕ) (h : i < 64) where
    abbrev known : Bool
    known = ltb d p.decisions

    abbrev small_set : Bool
    small_set = ltb (set_at w i) (2 ^ p.actions)

    abbrev apart : Bool
    apart = disjoint (set_at w i) q.done

    abbrev judged : Bool
    judged = enough p (asking q d) (set_at w i)

    bit_there : T (bit held i d) → T (bit_of p q w d i)
    unfolding bit_of clears
    bit_there t =
        let offers = subst T (sets_bit i h) (good.within i d t) in
        let e = good.sound i d t in
        and_make known (small_set && (apart && judged)) (lt→ltb d p.decisions (in_range_lem d (set_at w i) e))
        (and_make small_set (apart && judged) (and_left small_set apart offers)
        (and_make apart judged (and_right small_set apart offers) (enough_back d (set_at w i) e)))

    bit_back : (d < p.decisions → level_of p d < n) → T (bit_of p q w d i) → T (bit held i d)
    unfolding bit_of clears
    bit_back low t =
        let rest = and_right known (small_set && (apart && judged)) t in
        let l = ltb→lt d p.decisions (and_left known (small_set && (apart && judged)) t) in
        let both = and_right small_set (apart && judged) rest in
        let offers = and_make small_set apart (and_left small_set (apart && judged) rest) (and_left apart judged both) in
        good.complete i (subst T (sym (sets_bit i h)) offers) d (low l)
        (enough_there d (set_at w i) (and_right apart judged both))

  -- words that are right below a level are those of the definition
  right_worked : {n : ℕ} {held : List ℕ} → Right p q w sets n held → Worked p q w n held
  unfolding word_of
  right_worked {n} {held} good = record {
    size = good.size;
    words = λ d low. packed_only 64 (get_or held d 0) (bit_of p q w d) (⊆→< (get_or held d 0) sets 64 (λ i t. good.within i d t) sets_lt)
        (λ i h. same (bit held i d) (bit_of p q w d i) (bit_there good d i h) (bit_back good d i h low));
  }

  pub none_worked : (n : ℕ) → sets ≡ 0 → Worked p q w n (replicate 128 0)
  none_worked n e = right_worked (right_none n e)

  pub given_worked : {n : ℕ} {held : List ℕ} {given : ℕ} → given ≡ sets → Right p q w given n held → Worked p q w n held
  given_worked {n} {held} e r = right_worked (subst (λ (s : ℕ). Right p q w s n held) e r)

  -- with all levels they are the model
  pub all_worked : {held : List ℕ} → Worked p q w 16 held → held ≡ model_of p q w
  unfolding model_of
  all_worked {held} done = table_only 128 (word_of p q w) held done.size
      (λ d k. done.words d (λ l. omega (arith, (accepted_range p q ok).level d l)))

-- the word of a decision in the model
pub model_at : (p : Policy) (q : Query) (w : ℕ) {d : ℕ} → d < 128 → get_or (model_of p q w) d 0 ≡ word_of p q w d
unfolding model_of
model_at p q w {d} h = table_at 128 (word_of p q w) d 0 h
