-- What is claimed of the longest list there is, and of the file that reaches it (document 02, F-14).
use Rattle.std.specs.Prelude.{ℕ, ◌/◌, ◌^◌, ◌≤◌, ◌<◌, ◌↔◌, ◌≡◌, length, Ok, Err}
use Rattle.std.specs.Int.Count.{ones}
use Rattle.base.specs.Counted.{counted}
use Rattle.mask.specs.Mask.{has, sized}
use Rattle.policy.specs.declared.Policy.{Policy}
use Rattle.policy.specs.declared.Query.{Query}
use Rattle.policy.specs.declared.refusal.Refusal.TheVariants.{ListTooShort}
use Rattle.policy.specs.Questions.{Accepted}
use Rattle.model.specs.Derivation.{Derivable}
use Rattle.engine.specs.Sets.{most_slim, Slim}
use Rattle.engine.specs.Calls.{slim_sets, list_of}
use Rattle.reader.specs.File.{read_of}
use Rattle.threshold.specs.AtLeast.{There, decisions_to, number, at_least, eight, stated}
use Rattle.printing.specs.Texts.{longest_text}

pub record Longest : Type 0 where
  -- no query has more than 12,870 slim sets, nor more than there are sets of half the policy's actions
  pub most : (p : Policy) (q : Query) → Accepted p q → length (slim_sets p q) ≤ most_slim
  pub most_of : (p : Policy) (q : Query) → length (slim_sets p q) ≤ counted (sized (p.actions / 2)) (2 ^ p.actions)
  -- so a list of 12,870 places is never refused by 8: an accepted query is listed
  pub never_eight : (p : Policy) (q : Query) (places : ℕ) → most_slim ≤ places → ¬ (list_of p q places ≡ Err ListTooShort)
  pub listed : (p : Policy) (q : Query) → Accepted p q → (places : ℕ) → most_slim ≤ places
      → list_of p q places ≡ Ok (length (slim_sets p q))
  -- the file is accepted, and read as the policy and its one query
  pub reads : read_of longest_text ≡ stated
  -- the policy has 100 decisions, as many as are there, and 192 rules
  pub decisions : (at_least.decisions ≡ 100) × (decisions_to 16 ≡ 100)
  pub rules : at_least.rules ≡ 192
  -- "at least j of the first i" is in the model of a world exactly when the world has at least j of the first i actions
  pub decides : (w i j : ℕ) → There i j → Derivable at_least w (number i j) ↔ (j ≤ counted (has w) i)
  -- the slim sets are those of exactly 8 actions
  pub eights : (s : ℕ) → Slim at_least eight s ↔ ((s < 2 ^ 16) × (ones s ≡ 8))
  -- there are 12,870, and no shorter list would do
  pub many : length (slim_sets at_least eight) ≡ most_slim
  pub short : (places : ℕ) → places < most_slim → list_of at_least eight places ≡ Err ListTooShort
