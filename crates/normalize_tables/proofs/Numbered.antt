-- Segments by their numbers, and what the mark of a number says of a name. Assumes nothing.
use Prim.Native.Nat.{ℕ, zero, suc, ◌<◌}
use native.Mathlib.Omega.{arith}
use mathlib.Core.Bool.{Bool, true, false, not, ◌&&◌}
use mathlib.Core.List.{List, [], ◌∷◌, map}
use Rattle.std.specs.Prelude.{Option, None, Some, option_map}
use Rattle.gfa_spec.specs.Options.{map_or}
use mathlib.Core.Path.{◌≡◌, refl, sym, ◌∙◌}
use lib.Dec.{eqb, eqb-zero-suc, eqb-suc-zero, eqb-suc-suc}
use lib.ListN.{length, length-map}
use borrow.Author.Tests.{eq-eqb, not-true}
use Rattle.gfa_spec.specs.Bytes.{same, any, nth, distinct}
use Rattle.gfa_spec.specs.Reading.{Segment}
use Rattle.gfa_spec.specs.Records.{segment_number}
use Rattle.gfa_spec.proofs.Tests.{by_test, and_left, and_right, same_equal, same_sym}
use Rattle.gfa_spec.proofs.Each.{nth_map}
use Rattle.normalize_spec.proofs.Marks.{named}
use Rattle.tables.specs.declared.tables.Bases.{Bases}
use Rattle.tables.specs.declared.tables.Counts.{Counts}
use Rattle.tables.specs.Segments.{ids_of}
use Rattle.tables.specs.ByNumber.{segment_no, segments_of}
use Rattle.tables.proofs.ByNumber.{segments_nth, segments_length}
use Rattle.normalize_tables.proofs.Nodes.{absent_at}

-- ---- names and numbers

-- a name that no segment has is not that of segment i
other_segment : (x : List ℕ) (ss : List Segment) (i : ℕ) (d : Segment) → any (same x) (map (λ s. s.id) ss) ≡ false → i < length ss → same (nth i ss d).id x ≡ false
other_segment x ss i d h l =
    let ids = map (λ s. s.id) ss in
    same_sym (nth i ss d).id x ∙ (rw (nth_map (λ s. s.id) i ss d) at (absent_at x ids i d.id h (rw length-map l)))

successor_not_zero : (o : Option ℕ) → map_or (option_map suc o) false (eqb 0) ≡ false
unfolding map_or
successor_not_zero None = refl
successor_not_zero (Some k) = eqb-zero-suc k

next_number : (o : Option ℕ) (i : ℕ) → map_or (option_map suc o) false (eqb (suc i)) ≡ map_or o false (eqb i)
unfolding map_or
next_number None i = refl
next_number (Some k) i = eqb-suc-suc i k

-- Where no two segments have one name, segment i has a name exactly if the name's number is i.
pub number_says : (ss : List Segment) (name : List ℕ) (i : ℕ) (d : Segment) → distinct (map (λ s. s.id) ss) ≡ true → i < length ss
    → same (nth i ss d).id name ≡ map_or (segment_number ss name) false (eqb i)
unfolding distinct nth segment_number
number_says [] name i d u l = absurd (omega arith)
number_says (s ∷ ss) name zero d u l =
    by_test (same s.id name)
    (λ e. rw e (unfold map_or in sym (eq-eqb 0 0 refl)))
    (λ e. rw (e, successor_not_zero (segment_number ss name)))
number_says (s ∷ ss) name (suc i) d u l =
    let ids = map (λ s. s.id) ss in
    let alone = not-true (any (same s.id) ids) (and_left (not (any (same s.id) ids)) (distinct ids) u) in
    by_test (same s.id name)
    (λ e. rw (e, ← same_equal s.id name e, other_segment s.id ss i d alone (omega arith)) (unfold map_or in sym (eqb-suc-zero i)))
    (λ e. rw (e, next_number (segment_number ss name) i) (number_says ss name i d (and_right (not (any (same s.id) ids)) (distinct ids) u) (omega arith)))

-- ---- the rows of segments

module _ (text work : List ℕ) (b : Bases) (n : Counts) (apart : distinct (ids_of (segments_of text work b n)) ≡ true) (name : List ℕ) where
  -- segment i has a name exactly if the name's number is i
  pub row_named : (i : ℕ) → i < n.segs → same (segment_no text work b i).id name ≡ map_or (segment_number (segments_of text work b n) name) false (eqb i)
  unfolding ids_of
  row_named i h =
      let d = segment_no text work b 0 in
      rw (segments_nth text work b n.segs i d h) at (number_says (segments_of text work b n) name i d apart (rw segments_length h))

  -- some segment that passes has the name exactly if the segment of its number passes
  pub passes_named : (p : Segment → Bool) (k : ℕ) → segment_number (segments_of text work b n) name ≡ Some k → k < n.segs
      → any (λ s. p s && same s.id name) (segments_of text work b n) ≡ p (segment_no text work b k)
  unfolding ids_of map_or
  passes_named p k e h =
      let d = segment_no text work b 0 in
      named p d (segments_of text work b n) name apart ∙ rw (e, segments_nth text work b n.segs k d h)

  pub passes_none : (p : Segment → Bool) → segment_number (segments_of text work b n) name ≡ None → any (λ s. p s && same s.id name) (segments_of text work b n) ≡ false
  unfolding ids_of map_or
  passes_none p e = named p (segment_no text work b 0) (segments_of text work b n) name apart ∙ rw e
