-- What a call does that hands out text i of a list of texts into a lent buffer.
use Rattle.std.specs.Prelude.{ℕ, ◌≤◌, ◌<◌, true, false, Option, Some, None, List, [], ◌++◌, ◌≡◌, ltb, length, get_or, take, drop}

module _ (texts : List (List ℕ)) (i : ℕ) where
  abbrev pub text_at : List ℕ
  text_at = get_or texts i []

  -- as much of it as a buffer of so many bytes has room for
  abbrev pub part : ℕ → List ℕ
  part places = take places text_at

  -- what each case means, where the buffer held `before` and holds `after`: no text is left, and it is as it was; or text i
  -- stands in its first n bytes, as much of it as there is room for, and the bytes past it are as they were
  abbrev pub Hands : List ℕ → List ℕ → Option ℕ → Type 0
  Hands before after None = (length texts ≤ i) × (after ≡ before)
  Hands before after (Some n) =
      (i < length texts) × (n ≡ length (part (length before))) × (take n after ≡ part (length before)) × (drop n after ≡ drop n before)

  -- ---- how it is computed, which need not be believed: `Hands` says all of it

  -- what the call returns with a buffer of so many bytes, and what the buffer holds afterwards
  unfoldable pub handed_out : ℕ → Option ℕ
  handed_out places = elim (ltb i (length texts)) [ true ↦ Some (length (part places)) | false ↦ None ]

  unfoldable pub held_after : List ℕ → List ℕ
  held_after before =
      let front = part (length before) in
      elim (ltb i (length texts)) [ true ↦ front ++ drop (length front) before | false ↦ before ]
