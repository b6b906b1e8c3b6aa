-- The lines of a file state one record: what is drafted of it, and what is read of it where it is accepted.
use Rattle.std.specs.Prelude.{ℕ, true, ◌≡◌, List}
use Rattle.std.proofs.Common.{sym, ap, ◌∙◌}
use Rattle.base.specs.Laws.Tests.{is_true}
use Rattle.reader.specs.declared.Reading.{Reading}
use Rattle.reader.specs.File.{draft_of, read_of}
use Rattle.reader.specs.Claim.{DraftStates, States}
use Rattle.reader.specs.Laws.Clear.{stated_range, stated_queries, clear_same}
use Rattle.reader.specs.Laws.Files.{read_passed}
use Rattle.reader.specs.Laws.Back.{draft_back, queries_few, queries_fit}
use Rattle.reader.specs.Laws.States.{stated_answers}

module _ (s : List ℕ) (r : Reading) where
  pub draft_only : DraftStates s r → r ≡ draft_of s
  draft_only stated =
      let p = r.policy in
      let qs = r.queries in
      let full = stated.clear in
      let range = is_true _ (stated_range stated) in
      let few = queries_few p qs full.places (stated_queries stated) in
      let fit = queries_fit p qs full.places (stated_queries stated) in
      let back = draft_back p qs.count qs.at full.policy full.places few range stated.rise fit in
      clear_same stated ∙ sym back ∙ ap draft_of (sym stated.text)

  pub only : States s r → r ≡ read_of s
  only stated =
      let known = stated_answers stated true tt in
      sym (read_passed s r (sym (draft_only stated.draft)) stated.draft.none known.levels known.weights)
