-- Of two comparable policies one is the other with the weight of one action raised.
use Rattle.std.specs.Prelude.{ℕ, ◌+◌, ◌-◌, ◌⊎◌, ◌≡◌, get_or}
use Rattle.std.proofs.Common.{inl, inr, sym, ap, ◌∙◌, subst, add-zero, arith, get_or-take}
use Rattle.std.proofs.Math.Decide.{dec_lt, dec_le}
use Rattle.policy.specs.declared.Policy.{Policy}
use Rattle.policy.specs.declared.Action.{Action}
use Rattle.policy.specs.Record.{no_action, weight_of, cut, Agree}
use Rattle.alike.specs.Comparable.{reweighed_in, reweighed, Comparable}
use Rattle.repricing.specs.Reprices.{raised}
use Rattle.repricing.specs.Laws.Reweighed.{weight_here, own, reweighed_past, turned}
use Rattle.repricing.specs.Laws.Unmoved.{with_actions}

-- raised by 0: nothing changes
raised_zero : (p : Policy) (a : ℕ) → raised p a 0 ≡ p
raised_zero p a = ap (λ (n : ℕ). reweighed p a n) (add-zero (weight_of p a)) ∙ ap (with_actions p) (own p.action a)

pub raised_either : (p p' : Policy) → Comparable p p' → (a : ℕ) × (k : ℕ) × (Agree (raised p a k) p' ⊎ Agree (raised p' a k) p)
raised_either p p' (a, w, e) = elim (dec_le (weight_of p a) w) [
  | yes m ↦
      let more : w ≡ weight_of p a + (w - weight_of p a) = omega arith in
      (a, w - weight_of p a, inl (subst (λ (n : ℕ). Agree (reweighed p a n) p') more e))
  | no m ↦ elim (dec_lt a p.actions) [
    | yes h ↦
        let actions : p.actions ≡ p'.actions = ap (λ (r : Policy). r.actions) e in
        let here : w ≡ weight_of p' a =
        sym (weight_here p.action a w (omega arith)) ∙ ap (λ (x : Action). x.weight)
        (sym (get_or-take p.actions (reweighed_in p.action a w) a no_action h)
        ∙ ap (λ (r : Policy). get_or r.action a no_action) e
        ∙ get_or-take p'.actions p'.action a no_action (omega arith)) in
        let less : weight_of p a ≡ weight_of p' a + (weight_of p a - w) = omega (arith, here) in
        (a, weight_of p a - w, inr (subst (λ (n : ℕ). Agree (reweighed p' a n) p) less (turned p p' a w e)))
    | no h ↦ (a, 0, inl (ap cut (raised_zero p a) ∙ sym (reweighed_past p a w (omega arith)) ∙ e))
  ]
]
