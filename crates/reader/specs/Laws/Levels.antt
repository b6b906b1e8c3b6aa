-- Levels that fit, put into a draft in place of its own, make an accepted file.
use Rattle.std.specs.Prelude.{ℕ, ◌≤◌, ◌<◌, ◌≡◌, refl, true, List, length, get_or, take}
use Rattle.std.proofs.Common.{arith, ◌∙◌}
use Rattle.std.proofs.Math.Path.{ap, ap₂}
use Rattle.std.proofs.Math.Seq.{length-take-le}
use Rattle.base.specs.Laws.Tests.{passes}
use Rattle.base.specs.Lists.{filled}
use Rattle.base.specs.Laws.All.{all_of}
use Rattle.base.specs.Laws.Lists.{filled_of}
use Rattle.policy.specs.Record.{with_levels}
use Rattle.policy.specs.Questions.{levels_fit, weights_fit}
use Rattle.format.specs.Written.{file_of}
use Rattle.format.specs.Entries.{record_of}
use Rattle.format.specs.Laws.Policies.{ReadableEntries}
use Rattle.reader.specs.declared.Reading.{Reading}
use Rattle.reader.specs.File.{reading_of, draft_of, read_of}
use Rattle.reader.specs.Laws.Readings.{reading_text, ReadableLines}
use Rattle.reader.specs.Laws.Files.{drafted, read_passed, draft_complete}

-- levels that a file of n decisions states: 128 numbers, at most 15 below n and 0 from n on
pub record FileLevels (n : ℕ) (level : List ℕ) : Type 0 where
  pub places : length level ≡ 128
  pub small : (d : ℕ) → d < n → get_or level d 0 ≤ 15
  pub zeros : (d : ℕ) → n ≤ d → get_or level d 0 ≡ 0

-- the reading with these levels
abbrev reading_with : Reading → List ℕ → Reading
reading_with r level = record { refusal = 0; policy = with_levels r.policy level; queries = r.queries }

-- lines can state it, if they can state the reading
module _ (r : Reading) (level : List ℕ) (f : ReadableLines r) (g : FileLevels r.policy.decisions level) where
  entries_with : let p = with_levels r.policy level in ReadableEntries p.decisions p.actions p
  unfolding record_of
  entries_with =
      let p = r.policy in
      let e = f.policy.entries in
      let n = p.decisions in
      record {
        decisions = refl;
        actions = refl;
        few_rules = e.few_rules;
        level_count = length-take-le n level (omega (arith, g.places, f.policy.few_decisions));
        action_count = e.action_count;
        rule_count = e.rule_count;
        levels = all_of (λ l. l ≤ 15) 0 level n g.small;
        action = e.action;
        rule = e.rule;
        clear = ap₂ with_levels e.clear (filled_of n 0 level g.zeros ∙ ap (λ k. filled k 0 (take n level)) g.places);
      }

  lines_with : ReadableLines (reading_with r level)
  unfolding reading_of
  lines_with =
      let q = f.policy in record {
        policy = record {
          some_decisions = q.some_decisions;
          few_decisions = q.few_decisions;
          few_actions = q.few_actions;
          entries = entries_with;
        };
        few = f.few;
        places = f.places;
        queries = f.queries;
        clear = ap (λ (x : Reading). record { refusal = 0; policy = with_levels r.policy level; queries = x.queries }) f.clear;
      }

-- the file with these levels is read as the draft with these levels
pub levels_put : (s level : List ℕ) → let r = draft_of s in let p = with_levels r.policy level in
    r.refusal ≡ 0 → FileLevels p.decisions level → levels_fit p ≡ true → weights_fit r.policy ≡ true
    → read_of (file_of p r.queries.count r.queries.at) ≡ record { refusal = 0; policy = p; queries = r.queries }
unfolding weights_fit
levels_put s level e g levels weights =
    let r = draft_of s in
    let put = reading_with r level in
    let lines = lines_with r level (drafted s e).lines g in
    read_passed (reading_text put) put (draft_complete put lines) refl (passes _ levels) (passes _ weights)
