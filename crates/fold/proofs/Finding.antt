-- The segment made for a unit and a run length, found among the new segments on the unit; and the names of nodes. Assumes nothing.
use Prim.Native.Nat.{ℕ, zero, suc, ◌+◌, ◌-◌, ◌≤◌, ◌<◌}
use native.Mathlib.Decide.{dec_lt}
use native.Mathlib.Omega.{arith}
use mathlib.Core.Bool.{true, false, ◌&&◌}
use mathlib.Core.List.{List, [], ◌∷◌, ◌++◌}
use Rattle.std.specs.Prelude.{Option, None, Some}
use mathlib.Core.Path.{◌≡◌, refl, sym, ◌∙◌}
use lib.Dec.{eqb}
use borrow.Author.Tests.{eqb-true, eq-eqb}
use Rattle.gfa_spec.specs.Bytes.{same, nth}
use Rattle.gfa_spec.proofs.Tests.{by_test, both, refute}
use Rattle.normalize_spec.specs.Folding.{New, made_for}
use Rattle.normalize_spec.proofs.Images.{made_append}
use Rattle.work.specs.Rows.{rows_at, word_of}
use Rattle.tables.specs.declared.tables.Bases.{Bases}
use Rattle.tables.specs.declared.tables.Counts.{Counts}
use Rattle.tables.specs.ByNumber.{segment_no}
use Rattle.normalize_tables.specs.declared.layout.Layout.{Layout}
use Rattle.normalize_tables.specs.News.{segment_words, new_at, news_at, names_at}
use Rattle.normalize_tables.proofs.Nodes.{news_more}
use Rattle.new_ids.proofs.Finding.{id_front, id_behind}
use Rattle.new_segs.specs.Chains.{MadeIs}
use Rattle.new_segs.specs.Makes.{Making}
use Rattle.new_segs.proofs.Lookups.{unit_same}

-- ---- lists of new segments

module _ (unit : List ℕ) (count : ℕ) where
  -- one that is not found is sought among more
  none_append : (new more : List New) → made_for unit count new ≡ None → made_for unit count (new ++ more) ≡ made_for unit count more
  unfolding made_for
  none_append [] more h = refl
  none_append (n ∷ new) more h =
      by_test (same n.unit unit && eqb n.count count)
      (λ e. let z : ◌≡◌ {A = ℕ} 0 1 = cc (rw e at h) in absurd (omega arith))
      (λ e. rw e (none_append new more (rw e at h)))

  -- a list of one
  one_found : (n : New) → (same n.unit unit && eqb n.count count) ≡ true → made_for unit count (n ∷ []) ≡ Some n.id
  unfolding made_for
  one_found n e = rw e

  one_none : (n : New) → (same n.unit unit && eqb n.count count) ≡ false → made_for unit count (n ∷ []) ≡ None
  unfolding made_for
  one_none n e = rw e

-- ---- the table

module _ {text w : List ℕ} {b : Bases} {n : Counts} {g : Layout} {first q : ℕ} (m : Making text w b n g first q) (unit count : ℕ) (h : unit < n.segs) where
  name : List ℕ
  name = (segment_no text w b unit).id

  -- new segment j is of the unit and the run length where its row says so
  test_at : (j : ℕ) → j < q → (same (new_at text b g first w j).unit name && eqb (new_at text b g first w j).count count)
      ≡ (eqb (segment_words w g j).unit.0 unit && eqb (segment_words w g j).count count)
  unfolding new_at name
  test_at j l = rw (unit_same text w b n unit h m.source.apart (segment_words w g j).unit.0 (m.rows.row j l).unit)

  -- none is, of the first p
  none_of : (p : ℕ) → p ≤ q → ((i : ℕ) → i < p → (segment_words w g i).unit.0 ≡ unit → (segment_words w g i).count ≡ count → ⊥) → made_for name count (news_at text w b g first p) ≡ None
  none_of zero l d = unfold news_at rows_at made_for in refl
  none_of (suc p) l d =
      let fails : (eqb (segment_words w g p).unit.0 unit && eqb (segment_words w g p).count count) ≡ false =
      refute (eqb (segment_words w g p).unit.0 unit && eqb (segment_words w g p).count count)
      (λ e. let (units, times) = both e in d p (omega arith) (eqb-true _ _ units) (eqb-true _ _ times)) in
      rw (news_more text w b n g first p)
      (none_append name count (news_at text w b g first p) (new_at text b g first w p ∷ []) (none_of p (omega arith) (λ i k. d i (omega arith)))
      ∙ one_none name count (new_at text b g first w p) (test_at p (omega arith) ∙ fails))

  -- the one that is
  found_at : (p j : ℕ) → p ≤ q → j < p → (segment_words w g j).unit.0 ≡ unit → (segment_words w g j).count ≡ count → made_for name count (news_at text w b g first p) ≡ Some (new_at text b g first w j).id
  found_at zero j l k u c = absurd (omega arith)
  found_at (suc p) j l k u c = rw (news_more text w b n g first p) (go (dec_lt j p) (λ i. found_at p j (omega arith) i u c))
    where
      go : Dec (j < p) → (j < p → made_for name count (news_at text w b g first p) ≡ Some (new_at text b g first w j).id)
          → made_for name count (news_at text w b g first p ++ (new_at text b g first w p ∷ [])) ≡ Some (new_at text b g first w j).id
      go (yes i) r = made_append name count (news_at text w b g first p) (new_at text b g first w p ∷ []) (new_at text b g first w j).id (r i)
      go (no i) r =
          let last : p ≡ j = omega arith in
          rw last
          (none_append name count (news_at text w b g first j) (new_at text b g first w j ∷ [])
          (none_of j (omega arith) (λ a d x y. m.alone a j d (omega arith) (x ∙ sym u) (y ∙ sym c)))
          ∙ one_found name count (new_at text b g first w j) (test_at j (omega arith) ∙ rw (eq-eqb (segment_words w g j).unit.0 unit u, eq-eqb (segment_words w g j).count count c)))

  pub made_found : {r : Option ℕ} {j : ℕ} → MadeIs w g q unit count r → r ≡ Some j → made_for (segment_no text w b unit).id count (news_at text w b g first q) ≡ Some (new_at text b g first w j).id
  unfolding name
  made_found {j = j} f e = let o = f.on j e in found_at q j (omega arith) o.0 o.1.of_unit o.1.of_count

  pub made_none : {r : Option ℕ} → MadeIs w g q unit count r → r ≡ None → made_for (segment_no text w b unit).id count (news_at text w b g first q) ≡ None
  unfolding name word_of
  made_none f e = none_of q (omega arith) (λ i l u c. f.later i (rw e (omega arith)) l (record { of_unit = u; of_count = c }))

-- ---- names of nodes

module _ (text w : List ℕ) (b : Bases) (n : Counts) (g : Layout) (first q : ℕ) where
  -- a segment's
  pub name_of_unit : (k : ℕ) → k < n.segs → nth k (names_at text w b n g first q) [] ≡ (segment_no text w b k).id
  name_of_unit k h = sym (id_front text w b n g first q k h)

  -- a new segment's
  pub name_of_new : (j : ℕ) → j < q → nth (n.segs + j) (names_at text w b n g first q) [] ≡ (new_at text b g first w j).id
  name_of_new j h =
      let place : n.segs + j - n.segs ≡ j = omega arith in
      sym (rw place at (id_behind text w b n g first q (n.segs + j) (omega arith) (omega arith)))
