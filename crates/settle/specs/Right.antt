-- What the work on words keeps: for each of the sets a decision's bit says whether it has a derivation in the set's world, below
-- the level that is worked.
use Rattle.std.specs.Prelude.{ℕ, ◌^◌, ◌<◌, Bool, ◌&&◌, List, ◌≡◌, T, length, get_or}
use Rattle.mask.specs.Mask.{has}
use Rattle.policy.specs.declared.Policy.{Policy}
use Rattle.policy.specs.declared.Query.{Query}
use Rattle.policy.specs.Record.{rule_of, level_of}
use Rattle.model.specs.World.{enabled, world_of}
use Rattle.model.specs.Derivation.{Derivable}
use Rattle.columns.specs.Sets.{set_at}

-- decision d is held in the i-th set
abbrev pub bit : List ℕ → ℕ → ℕ → Bool
bit held i d = has (get_or held d 0) i

-- n words of 64 bits
pub record AreWords (n : ℕ) (l : List ℕ) : Type 0 where
  pub size : length l ≡ n
  pub small : (d : ℕ) → get_or l d 0 < 2 ^ 64

module _ (p : Policy) (world : ℕ) where
  -- each decision held has a derivation
  abbrev pub Sound : (ℕ → Bool) → Type 0
  Sound held = (d : ℕ) → T (held d) → Derivable p world d

  -- each decision of a level below n that has one is held
  abbrev pub Complete : ℕ → (ℕ → Bool) → Type 0
  Complete n held = (d : ℕ) → level_of p d < n → Derivable p world d → T (held d)

module _ (p : Policy) (q : Query) (w sets : ℕ) where
  -- the world of the i-th set of the word
  abbrev pub world_at : ℕ → ℕ
  world_at i = world_of p q.done (set_at w i)

  -- below level n the words are right for the sets, and nothing else is held in them
  pub record Right (n : ℕ) (held : List ℕ) : Type 0 where
    pub size : length held ≡ 128
    pub within : (i d : ℕ) → T (bit held i d) → T (has sets i)
    pub sound : (i : ℕ) → Sound p (world_at i) (bit held i)
    pub complete : (i : ℕ) → T (has sets i) → Complete p (world_at i) n (bit held i)

  -- the word of those of the sets that enable rule k
  abbrev pub Enables : ℕ → ℕ → Type 0
  Enables k word = (i : ℕ) → has word i ≡ (has sets i && enabled (world_at i) (rule_of p k))

  -- each place of the order has the word of the sets that enable its rule
  pub record Enabling (order words : List ℕ) : Type 0 where
    pub each : (j : ℕ) → j < p.rules → Enables (get_or order j 0) (get_or words j 0)
