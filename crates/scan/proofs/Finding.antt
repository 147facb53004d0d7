-- The search for a byte in a range of a text: its state, and how it goes on. Assumes nothing.
use Prim.Native.Nat.{ℕ, suc, ◌+◌, ◌≤◌, ◌<◌}
use native.Mathlib.Omega.{arith}
use native.Mathlib.Numerals.{add-one}
use mathlib.Core.List.{List}
use mathlib.Core.Path.{◌≡◌, ap}
use lib.ListN.{length, get_or}
use lib.Seq.{slice, slice-cons, slice_empty}
use borrow.Author.Tests.{eq-eqb, ne_eqb}
use Rattle.scan.specs.Places.{before, FirstIs}
use Rattle.scan.proofs.Cutting.{part_range}

-- The state at i: no b stands before i, so that the first is as far from i as it is from the range's start.
pub record Finding (text : List ℕ) (b from to i : ℕ) : Type 0 where
  pub low : from ≤ i
  pub high : i ≤ to
  pub inside : to ≤ length text
  pub place : i + before b (slice i to text) ≡ from + before b (slice from to text)

module _ (b f t : ℕ) (l : List ℕ) (h : f < t) (k : t ≤ length l) where
  -- a range that begins with b has nothing before b
  before_hit : get_or l f 0 ≡ b → before b (slice f t l) ≡ 0
  unfolding before
  before_hit e = rw (slice-cons f t l 0 h k) (simp (eq-eqb _ _ e))

  -- a range that begins with another byte has one more before b than the range behind it
  before_miss : (get_or l f 0 ≡ b → ⊥) → before b (slice f t l) ≡ suc (before b (slice (suc f) t l))
  unfolding before
  before_miss e = rw (slice-cons f t l 0 h k) (simp (ne_eqb _ _ e))

-- an empty range has nothing before b
before_none : (b t : ℕ) (l : List ℕ) → before b (slice t t l) ≡ 0
unfolding before
before_none b t l = rw slice_empty

module _ {text : List ℕ} {b from to : ℕ} where
  pub finding_start : (from ≤ to) × (to ≤ length text) → Finding text b from to from
  finding_start h = omega arith

  pub finding_hit : {i : ℕ} → Finding text b from to i → i < to → get_or text i 0 ≡ b → FirstIs text b from to i
  finding_hit {i} s h e =
      let z = before_hit b i to text h s.inside e in
      omega (arith, ap (before b) (part_range from to text (omega arith)))

  pub finding_more : {i : ℕ} → Finding text b from to i → i < to → (get_or text i 0 ≡ b → ⊥) → Finding text b from to (i + 1)
  finding_more {i} s h e = let z = before_miss b i to text h s.inside e in rw add-one (omega arith)

  pub finding_end : {i : ℕ} → Finding text b from to i → to ≤ i → FirstIs text b from to i
  finding_end {i} s h =
      let e : i ≡ to = omega arith in
      let z : before b (slice i to text) ≡ 0 = rw e (before_none b to text) in
      omega (arith, ap (before b) (part_range from to text (omega arith)))
