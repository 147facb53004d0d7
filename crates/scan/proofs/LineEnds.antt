-- The lines of a text, one at a time. Assumes nothing.
use Prim.Native.Nat.{ℕ, suc, ◌+◌, ◌-◌, ◌≤◌, ◌<◌}
use native.Mathlib.Numerals.{add-one}
use native.Mathlib.Omega.{arith}
use mathlib.Core.Bool.{false}
use mathlib.Core.List.{List, [], ◌∷◌, ◌++◌}
use mathlib.Core.Path.{◌≡◌, refl, ap, ◌∙◌}
use lib.ListN.{length, get_or, take, drop, length-take}
use lib.Seq.{slice, slice_empty, take-suc, drop-append-le, take-length, drop-length, length-slice}
use borrow.Author.Tests.{ne_eqb}
use Rattle.gfa_spec.specs.Bytes.{Part, part, split, is_empty}
use Rattle.gfa_spec.specs.Reading.{drop_return, drop_final, line_of, lines}
use Rattle.std.specs.Prelude.{None}
use Rattle.scan.specs.declared.lines.Lines.{Lines}
use Rattle.scan.specs.Places.{FirstIs, TrimmedIs, NextLineIs, lines_at, part_at}
use Rattle.scan.specs.TextLines.{LineGiven}
use Rattle.scan.proofs.Cutting.{part_slice, part_range, split_first, split_more, split_last}

-- a range that ends one byte later
pub slice_snoc : (f t : ℕ) (l : List ℕ) → f ≤ t → t < length l → slice f (suc t) l ≡ slice f t l ++ (get_or l t 0 ∷ [])
slice_snoc f t l h k =
    let n : f ≤ length (take t l) = simp length-take (omega arith) in
    rw (take-suc l t 0 k) (drop-append-le f (take t l) (get_or l t 0 ∷ []) n)

-- a carriage return at the end is dropped, and any other byte is kept
drop_return_hit : (s : List ℕ) → drop_return (s ++ (13 ∷ [])) ≡ s
unfolding drop_return
drop_return_hit [] = refl
drop_return_hit (x ∷ []) = refl
drop_return_hit (x ∷ (y ∷ ys)) = ap (λ l. x ∷ l) (drop_return_hit (y ∷ ys))

drop_return_miss : (s : List ℕ) (b : ℕ) → (b ≡ 13 → ⊥) → drop_return (s ++ (b ∷ [])) ≡ s ++ (b ∷ [])
unfolding drop_return
drop_return_miss [] b h = simp (ne_eqb b 13 h)
drop_return_miss (x ∷ []) b h = simp (ne_eqb b 13 h)
drop_return_miss (x ∷ (y ∷ ys)) b h = ap (λ l. x ∷ l) (drop_return_miss (y ∷ ys) b h)

-- a range by its last byte
pub last_byte_split : (text : List ℕ) (start end : ℕ) → start < end → end ≤ length text → slice start end text ≡ slice start (end - 1) text ++ (get_or text (end - 1) 0 ∷ [])
last_byte_split text start end n h =
    let e : end ≡ suc (end - 1) = omega arith in
    ap (λ t. slice start t text) e ∙ slice_snoc start (end - 1) text (omega arith) (omega arith)

module _ {text : List ℕ} {start end : ℕ} (h : (start ≤ end) × (end ≤ length text)) where
  pub trimmed_empty : start ≡ end → TrimmedIs text start end 0
  unfolding drop_return part
  trimmed_empty e = record { rest = rw (part_range start end text h.0, ← e, slice_empty); high = omega arith }

  pub trimmed_hit : (start ≡ end → ⊥) → get_or text (end - 1) 0 ≡ 13 → TrimmedIs text start end (end - 1 - start)
  trimmed_hit n e =
      let l : start + (end - 1 - start) ≡ end - 1 = omega arith in
      record { rest = rw (part_range start end text h.0, part_slice, l, last_byte_split text start end (omega arith) h.1, e, drop_return_hit); high = omega arith }

  pub trimmed_miss : (start ≡ end → ⊥) → (get_or text (end - 1) 0 ≡ 13 → ⊥) → TrimmedIs text start end (end - start)
  trimmed_miss n e =
      record { rest = rw (part_range start end text h.0, last_byte_split text start end (omega arith) h.1, drop_return_miss _ _ e); high = omega arith }

pub non_empty : (s : List ℕ) → 0 < length s → is_empty s ≡ false
unfolding is_empty
non_empty [] h = absurd (omega arith)
non_empty (x ∷ xs) h = refl

-- where other parts follow, the first is no final one
drop_final_more : (p : Part) (b at : ℕ) (s : List ℕ) → drop_final (p ∷ split b at s) ≡ p ∷ drop_final (split b at s)
unfolding drop_final
drop_final_more p b at s = rw (split_first b at s)

-- no line is at the end of the text
pub no_lines : (text : List ℕ) → lines_at text (length text) ≡ []
unfolding lines_at drop_final is_empty split
no_lines text = rw drop-length

pub no_lines_at : (text : List ℕ) (at : ℕ) → at ≡ length text → lines_at text at ≡ []
no_lines_at text at e = rw e (no_lines text)

-- a single part that is not empty stays
drop_final_one : (p : Part) → 0 < length p.bytes → drop_final (p ∷ []) ≡ p ∷ []
unfolding drop_final
drop_final_one p h = rw (non_empty p.bytes h)

-- the lines of a text are those from its start on
pub all_lines : (text : List ℕ) → lines text ≡ lines_at text 0
unfolding lines lines_at
all_lines text = refl

-- what stands behind a place stands from there up to the end
drop_slice : (text : List ℕ) (at : ℕ) → drop at text ≡ slice at (length text) text
drop_slice text at = rw take-length

module _ {text : List ℕ} {at end size : ℕ} (h : at < length text) (f : FirstIs text 10 at (length text) end) (t : TrimmedIs text at end size) where
  -- a line that ends in a line feed
  pub line_more : end < length text → NextLineIs text at at size (end + 1)
  unfolding lines_at line_of part_at
  line_more k =
      let rest = rw (part_range at end text f.low) at t.rest in
      record {
        first = rw (add-one, drop_slice text at, drop_slice text (suc end), split_more f k (omega arith), drop_final_more, rest);
        within = omega arith;
        on = omega arith;
        inside = omega arith;
      }

  -- a last line without
  pub line_last : length text ≤ end → NextLineIs text at at size end
  unfolding lines_at line_of part_at
  line_last k =
      let rest = rw (part_range at end text f.low) at t.rest in
      let e : end ≡ length text = omega arith in
      let n : 0 < length (slice at end text) = omega (arith, length-slice at end text f.high) in
      record {
        first = rw (drop_slice text at, split_last f k, drop_final_one (record { at = at; bytes = slice at end text }) n, rest, no_lines_at text end e);
        within = omega arith;
        on = omega arith;
        inside = omega arith;
      }

-- none is left at the end
pub no_line : {s : Lines} → s.at ≡ length s.text.now → LineGiven s None s
no_line {s} e =
    let n = no_lines_at s.text.now s.at e in
    record { same = refl; says = (n, n) }
