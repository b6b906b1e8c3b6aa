-- A text that is copied as far as there is room is put.
use Rattle.std.proofs.Common.{ℕ, ◌+◌, ◌-◌, ◌≤◌, min, ◌≡◌, sym, ◌∙◌, ap, List, ◌++◌, length, take, drop, length-take, arith, append-nil, take-append-drop}
use Rattle.std.proofs.Math.Seq.{take-take, take-length}
use Rattle.std.proofs.lemmas.Slice.{put_mid-paste}
use borrow.Rule.Slice.PartMut.{put_mid}
use Rattle.text.specs.declared.Pen.{Pen}
use Rattle.text.specs.Put.{fitting, Puts, with_text}
use Rattle.text.specs.Laws.Pens.{is_with}

-- into the places behind `at`
pub copied : (before text part : List ℕ) (at n : ℕ) → n ≡ min (length text) (length before - at) → part ≡ take n text
    → Puts before at text (put_mid at (at + n - at) before part) (at + n)
unfolding fitting
copied before text part at n most e =
    let room = length before - at in
    let f = take room text in
    let long : n ≡ length f = omega (arith, most, length-take room text) in
    let all : take n text ≡ f =
    ap (λ (k : ℕ). take k text) long ∙ sym (take-take (length f) room text (omega (arith, long, most))) ∙ take-length f in
    record {
      ends = ap (λ (k : ℕ). at + k) long;
      holds = put_mid-paste at (at + n - at) before part f n (e ∙ all) (omega arith) long
          ∙ ap (λ l. take at before ++ l ++ drop (at + n) before) (ap (λ (k : ℕ). take k f) long ∙ take-length f);
    }

-- where there is none
pub full : (before text : List ℕ) (at : ℕ) → length before ≤ at → Puts before at text before at
unfolding fitting
full before text at h =
    let none : length before - at ≡ 0 = omega arith in
    record { ends = rw none (omega arith); holds = rw none (rw append-nil (sym (take-append-drop at before))) }

-- so a pen that has copied it has put it
pub put_copied : (text : List ℕ) (pen : Pen) (part : List ℕ) (n : ℕ) → n ≡ min (length text) (length pen.buffer.now - pen.at) → part ≡ take n text
    → record pen { buffer = record pen.buffer { now = put_mid pen.at (pen.at + n - pen.at) pen.buffer.now part }; at = pen.at + n } ≡ with_text text pen
put_copied text pen part n most e = is_with text pen _ _ (copied pen.buffer.now text part pen.at n most e)
