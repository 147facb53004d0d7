-- Segments by their numbers: what is found under the name of segment k. Assumes nothing.
use Prim.Native.Nat.{ℕ, zero, suc, ◌<◌}
use native.Mathlib.Omega.{arith}
use mathlib.Core.Bool.{true, false, not}
use mathlib.Core.List.{List, [], ◌∷◌, map}
use Rattle.std.specs.Prelude.{Option, None, Some, option_map}
use mathlib.Core.Path.{◌≡◌, refl, sym, ap, ◌∙◌}
use lib.Dec.{eqb, eqb-zero-suc}
use lib.ListN.{length, length-map}
use Rattle.gfa_spec.specs.Bytes.{same, nth, any, distinct}
use Rattle.gfa_spec.specs.Reading.{Segment}
use Rattle.gfa_spec.specs.Records.{segment_number, sequence_of, sequence_or_empty}
use Rattle.gfa_spec.proofs.Tests.{by_test, and_right, same_equal, same_refl}
use Rattle.gfa_spec.proofs.Each.{nth_map}
use Rattle.gfa_spec.proofs.Known.{known_sequence}
use Rattle.tables.specs.declared.tables.Bases.{Bases}
use Rattle.tables.specs.declared.tables.Counts.{Counts}
use Rattle.tables.specs.Segments.{ids_of}
use Rattle.tables.specs.ByNumber.{segment_no, segments_of}
use Rattle.tables.proofs.ByNumber.{segments_length, segments_nth}
use Rattle.normalize_tables.proofs.Nodes.{same_place}

-- a segment, where there is none
unfoldable pub no_segment : Segment
no_segment = record { id = []; sequence = []; line = [] }

-- the ID of segment k is at place k of the IDs
id_at : (ss : List Segment) (k : ℕ) → nth k (map (λ s. s.id) ss) [] ≡ (nth k ss no_segment).id
unfolding no_segment
id_at ss k = nth_map (λ s. s.id) k ss no_segment

-- where no two segments have one name, two segments have it exactly if they are one
same_segment : (ss : List Segment) (j k : ℕ) → distinct (map (λ s. s.id) ss) ≡ true → j < length ss → k < length ss
    → same (nth j ss no_segment).id (nth k ss no_segment).id ≡ eqb j k
same_segment ss j k d l m =
    let size : length (map (λ s. s.id) ss) ≡ length ss = rw length-map in
    rw (← id_at ss j, ← id_at ss k) (same_place (map (λ s. s.id) ss) j k d (omega arith) (omega arith))

-- the sequence of the name of segment k is its own
sequence_at : (ss : List Segment) (k : ℕ) → distinct (map (λ s. s.id) ss) ≡ true → k < length ss → sequence_of ss (nth k ss no_segment).id ≡ Some (nth k ss no_segment).sequence
unfolding sequence_of nth
sequence_at [] k d h = absurd (omega arith)
sequence_at (s ∷ ss) zero d h = rw same_refl
sequence_at (s ∷ ss) (suc k) d h =
    let other : same s.id (nth k ss no_segment).id ≡ false = same_segment (s ∷ ss) 0 (suc k) d (omega arith) h ∙ eqb-zero-suc k in
    rw other (sequence_at ss k (unfold distinct in and_right (not (any (same s.id) (map (λ s. s.id) ss))) (distinct (map (λ s. s.id) ss)) d) (omega arith))

-- a name that has number k is that of segment k
number_id : (ss : List Segment) (name : List ℕ) (k : ℕ) → segment_number ss name ≡ Some k → (nth k ss no_segment).id ≡ name
unfolding segment_number nth
number_id [] name k e = let z : ◌≡◌ {A = ℕ} 0 1 = cc in absurd (omega arith)
number_id (s ∷ ss) name k e =
    by_test (same s.id name)
    (λ t. first k (rw t at e) (same_equal s.id name t))
    (λ t. more (λ j f. number_id ss name j f) k (segment_number ss name) refl (rw t at e))
  where
    first : (k : ℕ) → Some 0 ≡ Some k → s.id ≡ name → (nth k (s ∷ ss) no_segment).id ≡ name
    first zero f t = t
    first (suc k) f t = let z : ◌≡◌ {A = ℕ} 0 (suc k) = cc in absurd (omega arith)

    more : ((j : ℕ) → segment_number ss name ≡ Some j → (nth j ss no_segment).id ≡ name) → (k : ℕ) (o : Option ℕ) → segment_number ss name ≡ o → option_map suc o ≡ Some k
        → (nth k (s ∷ ss) no_segment).id ≡ name
    more r k None f t = let z : ◌≡◌ {A = ℕ} 0 1 = cc in absurd (omega arith)
    more r zero (Some j) f t = let z : ◌≡◌ {A = ℕ} (suc j) 0 = cc in absurd (omega arith)
    more r (suc k) (Some j) f t = let z : ◌≡◌ {A = ℕ} j k = cc in r k (f ∙ rw z)

-- ---- the table

module _ (text work : List ℕ) (b : Bases) (n : Counts) (k : ℕ) (h : k < n.segs) where
  -- the name that has number k
  pub number_name : (name : List ℕ) → segment_number (segments_of text work b n) name ≡ Some k → name ≡ (segment_no text work b k).id
  number_name name e = sym (number_id (segments_of text work b n) name k e) ∙ ap (λ s. s.id) (segments_nth text work b n.segs k no_segment h)

  in_table : k < length (segments_of text work b n)
  in_table = rw (segments_length text work b n.segs) h

  module _ (d : distinct (ids_of (segments_of text work b n)) ≡ true) where
    pub unit_sequence : sequence_or_empty (segments_of text work b n) (segment_no text work b k).id ≡ (segment_no text work b k).sequence
    unit_sequence =
        known_sequence (segments_of text work b n) (segment_no text work b k).id (segment_no text work b k).sequence
        (rw (segments_nth text work b n.segs k no_segment h) at (sequence_at (segments_of text work b n) k (unfold ids_of in d) in_table))

    pub unit_same : (j : ℕ) → j < n.segs → same (segment_no text work b j).id (segment_no text work b k).id ≡ eqb j k
    unit_same j l =
        rw (← segments_nth text work b n.segs j no_segment l, ← segments_nth text work b n.segs k no_segment h)
        (same_segment (segments_of text work b n) j k (unfold ids_of in d) (rw (segments_length text work b n.segs) l) in_table)
