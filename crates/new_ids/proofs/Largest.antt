-- The number of the first new segment: the search for the largest ID. Assumes nothing.
use Prim.Native.Nat.{ℕ, suc, ◌+◌, ◌≤◌, ◌<◌, max}
use native.Mathlib.Omega.{arith}
use mathlib.Core.List.{List}
use Rattle.std.specs.Prelude.{Option, None, Some, SomeIff}
use mathlib.Core.Path.{◌≡◌, refl, sym, ◌∙◌}
use borrow.Author.Tests.{lt-ltb, le-ltb}
use Rattle.gfa_spec.proofs.Parts.{by_order}
use Rattle.gfa_spec.specs.Decimal.{largest64, number_of}
use Rattle.normalize_spec.specs.Folding.{largest_id, usable, next_after, none_made}
use Rattle.tables.specs.declared.tables.Bases.{Bases}
use Rattle.tables.specs.declared.tables.Counts.{Counts}
use Rattle.tables.specs.declared.rows.SegmentWords.{SegmentWords}
use Rattle.scan.specs.Places.{bytes_in}
use Rattle.tables.specs.ByNumber.{segments_of, SegmentIs, segments_from}
use Rattle.tables.proofs.ByNumber.{segments_next, segments_none}

-- The state at i: the largest ID is the larger of what was found and the largest of the IDs from i on.
pub record Growing (text work : List ℕ) (b : Bases) (n : Counts) (largest i : ℕ) : Type 0 where
  pub high : i ≤ n.segs
  pub small : largest ≤ 18446744073709551615
  pub rest : largest_id 0 (segments_of text work b n) ≡ largest_id largest (segments_from text work b n i)

module _ {text work : List ℕ} {b : Bases} {n : Counts} {largest i : ℕ} (s : Growing text work b n largest i) where
  module _ (l : i < n.segs) {unit : SegmentWords} {r : Option ℕ} (u : SegmentIs text work b i unit) (e : r ≡ number_of (bytes_in text unit.id)) where
    -- an ID that is no number
    pub growing_stop : {a : Option ℕ} → r ≡ None → a ≡ None → a ≡ (none_made (segments_of text work b n)).next
    unfolding none_made next_after usable largest_id
    growing_stop t q =
        let other = sym e ∙ t in
        let whole : largest_id 0 (segments_of text work b n) ≡ None = s.rest ∙ rw (segments_next text work b n i l, u.segment, other, largest_id) in
        q ∙ rw whole refl

    -- one more number
    pub growing_more : {v m : ℕ} → r ≡ Some v → v ≤ 18446744073709551615 → m ≡ max largest v → Growing text work b n m (i + 1)
    unfolding largest_id
    growing_more {v} {m} t k f =
        let number = sym e ∙ t in
        record { high = omega arith; small = omega (arith, s.small); rest = s.rest ∙ rw (segments_next text work b n i l, u.segment, number, largest_id, f) }

  -- all are numbers
  growing_all : n.segs ≤ i → largest_id 0 (segments_of text work b n) ≡ Some largest
  unfolding largest_id
  growing_all l = s.rest ∙ rw (segments_none text work b n i l)

  -- the next is the first of the new; no number is behind the largest of all
  pub growing_end : {r : Option ℕ} → n.segs ≤ i → SomeIff r (largest + 1 < 18446744073709551616) (largest + 1) → r ≡ (none_made (segments_of text work b n)).next
  unfolding none_made next_after usable largest64
  growing_end {r = None} l e = rw (growing_all l, le-ltb largest 18446744073709551615 (by_order 18446744073709551615 largest (λ h. h) (λ h. absurd (e (omega arith))))) refl
  growing_end {r = Some v} l e = let next : v ≡ suc largest = omega (arith, e.1) in rw (growing_all l, lt-ltb largest 18446744073709551615 (omega (arith, e.0)), next) refl

pub ruleset growing = (growing_stop, growing_more, growing_end)
