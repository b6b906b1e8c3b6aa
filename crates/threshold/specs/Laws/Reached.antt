-- The bound is reached: the slim sets of the policy's query are the sets of exactly 8 actions, and there are 12,870.
use Prim.Native.Nat.{ℕ, zero, suc, ◌^◌, ◌≤◌, ◌<◌}
use Rattle.std.specs.Prelude.{Bool, true, false, cond, List, ◌↔◌, ◌≡◌, T, eqb, length, get_or, replicate, Err}
use Rattle.std.proofs.Math.Path.{refl}
use Rattle.std.proofs.Common.{sym, ap, subst, ◌∙◌, arith, lit<, eqb→eq}
use Rattle.std.specs.Int.Bits.{or_zero_r}
use Rattle.std.specs.Int.Count.{ones}
use Rattle.base.specs.Laws.Tests.{same}
use Rattle.base.specs.Lists.{filled}
use Rattle.mask.specs.Mask.{has, sized}
use Rattle.mask.specs.Laws.{has_none, ⊆→<}
use Rattle.mask.specs.Laws.Ones.{counted_ones, fewer_ones, same_size, one_fewer}
use Rattle.mask.specs.Laws.Layers.{layer, halves}
use Rattle.mask.specs.Family.{among}
use Rattle.mask.specs.Laws.Among.{among_same, among_counted}
use Rattle.policy.specs.declared.Action.{Action}
use Rattle.policy.specs.Questions.{first_no}
use Rattle.policy.specs.Record.{no_action}
use Rattle.model.specs.World.{alsoes, followed, world_in, world_of}
use Rattle.model.specs.Derivation.{Derivable}
use Rattle.policy.specs.declared.refusal.Refusal.TheVariants.{ListTooShort}
use Rattle.policy.specs.Refusal.{refusal_of, refuse}
use Rattle.engine.specs.Sets.{most_slim, Enough, Slim}
use Rattle.engine.specs.Calls.{slim, slim_sets, list_questions, list_of}
use Rattle.engine.specs.Laws.Decide.{slim_iff}
use Rattle.engine.specs.Laws.Refusals.{refused, list_no}
use Rattle.format.specs.Entries.{record_of}
use Rattle.threshold.specs.AtLeast.{There, number, plain, at_least, eight}
use Rattle.threshold.specs.Laws.Taken.{accepted}
use Rattle.threshold.specs.Laws.Holds.{holds_iff}

-- ---- where no action does another, the world is the set
module _ (action : List Action) (alone : (a : ℕ) → (get_or action a no_action).also ≡ 0) where
  nothing : (b : Bool) → ◌≡◌ {A = ℕ} (cond b 0 0) 0
  nothing true = refl
  nothing false = refl

  alsoes_none : (m n : ℕ) → alsoes action n m ≡ 0
  unfolding alsoes
  alsoes_none m zero = refl
  alsoes_none m (suc n) = rw (alsoes_none m n, alone n, nothing (has m n))

  followed_same : (n m k : ℕ) → followed action n m k ≡ m
  unfolding followed
  followed_same n m zero = refl
  followed_same n m (suc k) = rw (followed_same n m k, alsoes_none m n) (or_zero_r m)

alone_filled : (n a : ℕ) → (get_or (replicate n plain) a no_action).also ≡ 0
unfolding plain
alone_filled zero a = refl
alone_filled (suc n) zero = refl
alone_filled (suc n) (suc a) = alone_filled n a

world_is : (s : ℕ) → world_of at_least 0 s ≡ s
unfolding world_of world_in at_least record_of filled
world_is s = followed_same _ (alone_filled 16) 16 s 16

-- ---- enough: at least 8 actions
there : There 16 8
there = record { actions = lit< tt; some = lit< tt; eight = lit< tt; fits = lit< tt }

enough_iff : (s : ℕ) → Enough at_least eight s ↔ ((s < 2 ^ 16) × (8 ≤ ones s))
unfolding at_least eight record_of
enough_iff s = (
  λ e. (
    e.offered.set,
    omega (
      arith,
      counted_ones s 16 e.offered.set,
      (holds_iff s 16 8 there).0 (subst (λ (w : ℕ). Derivable at_least w (number 16 8)) (world_is s) e.clears),
    ),
  ),
  λ (h, few). record {
    offered = record { set = h; apart = λ i t u. has_none i u };
    clears = subst (λ (w : ℕ). Derivable at_least w (number 16 8)) (sym (world_is s))
        ((holds_iff s 16 8 there).1 (omega (arith, counted_ones s 16 h)));
  },
)

-- a set of more than 8 is not slim: with one action fewer it is enough
not_more : (s : ℕ) → Slim at_least eight s → s < 2 ^ 16 → ¬ (9 ≤ ones s)
not_more s e h more =
    let (t, sub, one) = one_fewer s (omega arith) in
    e.least t sub (λ z. omega (arith, ap ones z)) ((enough_iff t).1 (⊆→< t s 16 sub h, omega arith))

-- slim: exactly 8
pub slim_eight : (s : ℕ) → Slim at_least eight s ↔ ((s < 2 ^ 16) × (ones s ≡ 8))
slim_eight s = (eight_of, back)
  where
    eight_of : Slim at_least eight s → (s < 2 ^ 16) × (ones s ≡ 8)
    eight_of e =
        let (h, some) = (enough_iff s).0 e.enough in
        let no_more = not_more s e h in
        (h, omega arith)

    back : (s < 2 ^ 16) × (ones s ≡ 8) → Slim at_least eight s
    back (h, all) = record {
      enough = (enough_iff s).1 (h, omega arith);
      least = λ t sub ne e. ne (same_size t s sub (omega (arith, fewer_ones t s sub, ((enough_iff t).0 e).1)));
    }

-- so their list is that of the sets with exactly 8 actions
slim_sets_lem : slim_sets at_least eight ≡ among (sized 8) (2 ^ 16)
unfolding slim_sets at_least record_of
slim_sets_lem = among_same (slim at_least eight) (sized 8) (2 ^ 16) (λ s h. same (slim at_least eight s) (sized 8 s)
    (λ t. subst (λ (x : ℕ). T (eqb x 8)) (sym ((slim_eight s).0 ((slim_iff at_least eight accepted s h).0 t)).1) tt)
    (λ t. (slim_iff at_least eight accepted s h).1 ((slim_eight s).1 (h, eqb→eq (ones s) 8 t))))

-- and there are 12,870
pub most_slim_lem : length (slim_sets at_least eight) ≡ most_slim
most_slim_lem = ap length slim_sets_lem ∙ among_counted (sized 8) (2 ^ 16) ∙ layer 16 8 ∙ halves.3

-- so List is refused by 8 where it is lent fewer places
pub short_list : (places : ℕ) → places < most_slim → list_of at_least eight places ≡ Err ListTooShort
unfolding list_of refusal_of
short_list places h =
    let eighth = list_no at_least eight places accepted (omega (arith, most_slim_lem)) in
    refused (first_no (list_questions at_least eight places)) _ _ (λ z. omega arith) ∙ ap refuse eighth
