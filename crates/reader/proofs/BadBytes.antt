-- The search for a bad byte. Assumes nothing.
use Rattle.std.specs.Prelude.{None, Some}
use Rattle.refusals.specs.declared.refusal.Refusal.{Refusal}
use Rattle.refusals.specs.Refusals.{stated}
use Prim.Native.Nat.{ℕ, suc, ◌+◌, ◌≤◌, ◌<◌}
use native.Mathlib.Numerals.{add-one}
use native.Mathlib.Omega.{arith}
use mathlib.Core.List.{List, [], ◌∷◌}
use Rattle.std.specs.Prelude.{Some}
use mathlib.Core.Path.{◌≡◌, ◌∙◌, ap, sym}
use lib.ListN.{length, get_or}
use lib.Seq.{slice, slice-cons, slice_empty, take-length}
use borrow.Author.Tests.{le-leb, lt-leb, ne_eqb}
use Rattle.gfa_spec.specs.Calls.{at_place, bad_byte}
use Rattle.reader.specs.Inputs.{BadIs}

-- a byte of 128 or more
high_byte : (at b : ℕ) (rest : List ℕ) → 128 ≤ b → bad_byte at (b ∷ rest) ≡ Some (at_place 2 at)
unfolding bad_byte
high_byte at b [] h = rw (le-leb 128 b h)
high_byte at b (c ∷ bs) h = rw (le-leb 128 b h)

-- any other byte but a carriage return
plain_byte : (at b : ℕ) (rest : List ℕ) → b < 128 → (b ≡ 13 → ⊥) → bad_byte at (b ∷ rest) ≡ bad_byte (suc at) rest
unfolding bad_byte
plain_byte at b [] h n = rw (lt-leb 128 b h, ne_eqb b 13 n)
plain_byte at b (c ∷ bs) h n = rw (lt-leb 128 b h, ne_eqb b 13 n)

-- a carriage return: at the end, before another byte, and before a line feed
return_last : (at b : ℕ) → b ≡ 13 → bad_byte at (b ∷ []) ≡ Some (at_place 3 at)
unfolding bad_byte
return_last at b e = rw e

return_bare : (at b c : ℕ) (bs : List ℕ) → b ≡ 13 → (c ≡ 10 → ⊥) → bad_byte at (b ∷ (c ∷ bs)) ≡ Some (at_place 3 at)
unfolding bad_byte
return_bare at b c bs e n = rw (e, ne_eqb c 10 n)

return_feed : (at b c : ℕ) (bs : List ℕ) → b ≡ 13 → c ≡ 10 → bad_byte at (b ∷ (c ∷ bs)) ≡ bad_byte (suc at) (c ∷ bs)
unfolding bad_byte
return_feed at b c bs e f = rw (e, f)

-- The search at i: what is wrong with the text is what is wrong from i on.
pub record Searching (text : List ℕ) (i : ℕ) : Type 0 where
  pub high : i ≤ length text
  pub whole : bad_byte 0 text ≡ bad_byte i (slice i (length text) text)

pub searching_start : (text : List ℕ) → Searching text 0
searching_start text = record { high = omega arith; whole = rw take-length }

module _ {text : List ℕ} {i : ℕ} (s : Searching text i) where
  pub searching_end : length text ≤ i → BadIs text None
  unfolding bad_byte
  searching_end h =
      let e : i ≡ length text = omega (arith, s.high) in
      record { says = s.whole ∙ rw (e, slice_empty) }

  module _ (h : i < length text) where
    here : slice i (length text) text ≡ get_or text i 0 ∷ slice (suc i) (length text) text
    here = slice-cons i (length text) text 0 h (omega arith)

    pub searching_high : 128 ≤ get_or text i 0 → {q : Refusal} → stated q ≡ at_place 2 i → BadIs text (Some q)
    searching_high b q = record { says = s.whole ∙ rw here (high_byte i (get_or text i 0) _ b) ∙ ap Some (sym q) }

    pub searching_last : get_or text i 0 ≡ 13 → i + 1 ≡ length text → {q : Refusal} → stated q ≡ at_place 3 i → BadIs text (Some q)
    searching_last b e q =
        let z : slice (suc i) (length text) text ≡ [] = rw (← e, add-one, slice_empty) in
        record { says = s.whole ∙ rw (here, z) (return_last i (get_or text i 0) b) ∙ ap Some (sym q) }

    pub searching_bare : get_or text i 0 ≡ 13 → (i + 1 ≡ length text → ⊥) → (get_or text (i + 1) 0 ≡ 10 → ⊥) → {q : Refusal} → stated q ≡ at_place 3 i → BadIs text (Some q)
    searching_bare b e n q =
        let z = slice-cons (suc i) (length text) text 0 (omega (arith, e)) (omega arith) in
        record { says = s.whole ∙ rw (here, z) (return_bare i (get_or text i 0) _ _ b (rw add-one at n)) ∙ ap Some (sym q) }

    pub searching_feed : get_or text i 0 ≡ 13 → (i + 1 ≡ length text → ⊥) → get_or text (i + 1) 0 ≡ 10 → Searching text (i + 1)
    searching_feed b e n =
        let z = slice-cons (suc i) (length text) text 0 (omega (arith, e)) (omega arith) in
        rw add-one (record { high = omega arith; whole = s.whole ∙ rw (here, z) (return_feed i (get_or text i 0) _ _ b (rw add-one at n)) })

    pub searching_more : get_or text i 0 < 128 → (get_or text i 0 ≡ 13 → ⊥) → Searching text (i + 1)
    searching_more b n = rw add-one (record { high = omega arith; whole = s.whole ∙ rw here (plain_byte i (get_or text i 0) _ b n) })
