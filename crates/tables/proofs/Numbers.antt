-- The number of a segment, and the search for it. Assumes nothing.
use Prim.Native.Nat.{ℕ, zero, suc, ◌<◌}
use native.Mathlib.Decide.{ℕ_discrete}
use native.Mathlib.Omega.{arith}
use mathlib.Core.Bool.{Bool, true, false, cond}
use mathlib.Core.List.{List, [], ◌∷◌, ◌++◌}
use Rattle.std.specs.Prelude.{Option, option_map, None, Some}
use mathlib.Core.Path.{ap, ◌≡◌, refl, sym, ◌∙◌}
use lib.ListN.{length}
use Rattle.scan.specs.declared.places.Place.{Place}
use Rattle.tables.specs.declared.entry.SegmentNo.{SegmentNo}
use Rattle.tables.specs.declared.tables.Bases.{Bases}
use Rattle.gfa_spec.specs.Bytes.{same, any, nth}
use Rattle.gfa_spec.specs.Reading.{Segment}
use Rattle.gfa_spec.specs.Records.{sequence_of, segment_number}
use Rattle.scan.specs.Places.{bytes_in}
use Rattle.work.specs.Rows.{rows_at}
use Rattle.tables.specs.Segments.{segments_at, ids_of, segment_found}
use Rattle.tables.specs.ByNumber.{segment_no, segments_to, FoundIs}
use Rattle.tables.specs.Names.{id_no}
use Rattle.slots.specs.Slots.{Last}
use Rattle.slots.proofs.Lasts.{last_of_none, last_top, last_fewer}
use Rattle.gfa_spec.proofs.Options.{None-ne-Some}
use Rattle.gfa_spec.proofs.Tests.{cond_ap, by_test, same_sym, same_equal, equal_same, clash}
use Rattle.work.proofs.Rows.{rows_snoc, rows_length}

-- ---- the number

-- the first of two answers
either : Option ℕ → Option ℕ → Option ℕ
either None o = o
either (Some k) o = Some k

-- is there a number?
is_there : Option ℕ → Bool
is_there None = false
is_there (Some k) = true

either_none : (o : Option ℕ) → either o None ≡ o
unfolding either
either_none None = refl
either_none (Some k) = refl

either_both : (o p : Option ℕ) → either o p ≡ None → (o ≡ None) × (p ≡ None)
unfolding either
either_both None p e = (refl, e)
either_both (Some k) p e = absurd (None-ne-Some k (sym e))

map_either : (o p : Option ℕ) → option_map suc (either o p) ≡ either (option_map suc o) (option_map suc p)
unfolding either
map_either None p = refl
map_either (Some k) p = refl

map_there : (o : Option ℕ) → is_there (option_map suc o) ≡ is_there o
unfolding is_there
map_there None = refl
map_there (Some k) = refl

-- with one segment more
number_snoc : (ss : List Segment) (s : Segment) (name : List ℕ) →
    segment_number (ss ++ (s ∷ [])) name ≡ either (segment_number ss name) (cond (same s.id name) (Some (length ss)) None)
unfolding segment_number either
number_snoc [] s name = refl
number_snoc (t ∷ ts) s name =
    by_test (same t.id name)
    (λ e. rw e)
    (λ e. rw (e, number_snoc ts s name, map_either, cond_ap (option_map suc)))

-- a name is one of the IDs where it has a number
number_there : (ss : List Segment) (name : List ℕ) → any (same name) (ids_of ss) ≡ is_there (segment_number ss name)
unfolding segment_number ids_of any is_there
number_there [] name = refl
number_there (s ∷ ss) name =
    rw (same_sym name s.id)
    (by_test (same s.id name)
    (λ e. rw e)
    (λ e. rw e (number_there ss name ∙ sym (map_there (segment_number ss name)))))

pub some_there : (ss : List Segment) (name : List ℕ) {k : ℕ} → segment_number ss name ≡ Some k → any (same name) (ids_of ss) ≡ true
unfolding is_there
some_there ss name e = number_there ss name ∙ rw e

pub none_there : (ss : List Segment) (name : List ℕ) → segment_number ss name ≡ None → any (same name) (ids_of ss) ≡ false
unfolding is_there
none_there ss name e = number_there ss name ∙ rw e

-- the sequence of a name is that of the segment of its number
pub number_sequence : (ss : List Segment) (name : List ℕ) (d : Segment) → sequence_of ss name ≡ option_map (λ k. (nth k ss d).sequence) (segment_number ss name)
unfolding sequence_of segment_number nth
number_sequence [] name d = refl
number_sequence (s ∷ ss) name d =
    by_test (same s.id name)
    (λ e. rw e)
    (λ e. rw e (number_sequence ss name d ∙ go (segment_number ss name)))
  where
    go : (o : Option ℕ) → option_map (λ k. (nth k ss d).sequence) o ≡ option_map (λ k. (nth k (s ∷ ss) d).sequence) (option_map suc o)
    go None = refl
    go (Some k) = refl

-- no segment has the name: there is no sequence
pub none_sequence : (ss : List Segment) (name : List ℕ) → segment_number ss name ≡ None → sequence_of ss name ≡ None
none_sequence ss name e = number_sequence ss name (record { id = []; sequence = []; line = [] }) ∙ rw e

-- segment k has the name: the sequence is its
pub some_sequence : (ss : List Segment) (name : List ℕ) (k : ℕ) (d : Segment) → segment_number ss name ≡ Some k → sequence_of ss name ≡ Some (nth k ss d).sequence
some_sequence ss name k d e = number_sequence ss name d ∙ rw e

-- ---- the search

module _ (text work : List ℕ) (b : Bases) (name : List ℕ) where
  -- the first n segments and one more
  number_more : (n : ℕ) → segment_number (segments_to text work b (suc n)) name ≡
      either (segment_number (segments_to text work b n) name) (cond (same (segment_no text work b n).id name) (Some n) None)
  unfolding segments_at
  number_more n = rw (rows_snoc, number_snoc, rows_length)

  -- the last segment so named is the segment so named, where no two have one ID
  pub last_number : (n : ℕ) (r : Option ℕ) → ((i k : ℕ) → i < k → k < n → id_no text work b i ≡ id_no text work b k → ⊥) → Last (λ k. id_no text work b k ≡ name) n r
      → segment_number (segments_to text work b n) name ≡ r
  unfolding segment_number segments_at rows_at either
  last_number zero r d l = sym (last_of_none l)
  last_number (suc n) r d l =
      number_more n
      ∙ by_test (same (id_no text work b n) name)
      (λ e.
      let p = same_equal (id_no text work b n) name e in
      rw (e, last_top l p, last_number n None (λ i k a h q. d i k a (omega arith) q) (record { on = λ k z. absurd (None-ne-Some k z); later = λ i a h q. d i n h (omega arith) (q ∙ sym p) })))
      (λ e. rw (e, last_number n r (λ i k a h q. d i k a (omega arith) q) (last_fewer l (λ p. clash (equal_same (id_no text work b n) name p) e))) (either_none r))

  -- where none is so named, no segment has that ID
  number_none : (n : ℕ) → segment_number (segments_to text work b n) name ≡ None → (k : ℕ) → k < n → id_no text work b k ≡ name → ⊥
  unfolding either
  number_none zero e k h q = absurd (omega arith)
  number_none (suc n) e k h q =
      let z = either_both (segment_number (segments_to text work b n) name) (cond (same (id_no text work b n) name) (Some n) None) (sym (number_more n) ∙ e) in
      go (ℕ_discrete k n) z.1 (λ l. number_none n z.0 k l q)
    where
      go : Dec (k ≡ n) → cond (same (id_no text work b n) name) (Some n) None ≡ None → (k < n → ⊥) → ⊥
      go (yes d) g f = None-ne-Some n (sym g ∙ rw (equal_same (id_no text work b n) name (rw d at q)))
      go (no d) g f = f (omega arith)

-- ---- what was found

-- the number that was found
number_in : Option SegmentNo → ℕ
number_in (Some k) = k.0
number_in None = 0

pub found_at : (o : Option ℕ) (k : ℕ) → segment_found o ≡ Some (record { 0 = k }) → o ≡ Some k
unfolding number_in
found_at None k e = cc
found_at (Some j) k e = ap Some (ap number_in e)

pub found_nothing : (o : Option ℕ) → segment_found o ≡ None → o ≡ None
found_nothing None e = refl
found_nothing (Some j) e = cc

-- what the answer says of the IDs
module _ {text work : List ℕ} {b : Bases} {count : ℕ} {name : Place} {r : Option SegmentNo} (h : FoundIs text work b count name r) where
  pub found_known : {k : SegmentNo} → r ≡ Some k → any (same (bytes_in text name)) (ids_of (segments_to text work b count)) ≡ true
  found_known {k} e = some_there (segments_to text work b count) (bytes_in text name) (found_at (segment_number (segments_to text work b count) (bytes_in text name)) k.0 (sym h.answer ∙ e))

  pub found_new : r ≡ None → any (same (bytes_in text name)) (ids_of (segments_to text work b count)) ≡ false
  found_new e = none_there (segments_to text work b count) (bytes_in text name) (found_nothing (segment_number (segments_to text work b count) (bytes_in text name)) (sym h.answer ∙ e))

  -- and none of them has the name
  pub found_fresh : r ≡ None → (k : ℕ) → k < count → id_no text work b k ≡ bytes_in text name → ⊥
  found_fresh e = number_none text work b (bytes_in text name) count (found_nothing (segment_number (segments_to text work b count) (bytes_in text name)) (sym h.answer ∙ e))
