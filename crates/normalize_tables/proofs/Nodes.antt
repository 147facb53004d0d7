-- Nodes by their numbers: the places of IDs in a list without repetition. Assumes nothing.
use Prim.Native.Nat.{ℕ, zero, suc, ◌+◌, ◌*◌, ◌<◌}
use native.Mathlib.Omega.{arith}
use mathlib.Core.Bool.{true, false, not}
use mathlib.Core.List.{List, [], ◌∷◌, ◌++◌, map-append, append_assoc}
use mathlib.Core.Path.{◌≡◌, sym, ap, ◌∙◌}
use lib.Dec.{eqb, eqb-zero-suc, eqb-suc-zero, eqb-suc-suc}
use lib.ListN.{length, length-append, length-map}
use borrow.Author.Tests.{not-true}
use Rattle.gfa_spec.specs.Bytes.{same, any, nth, distinct}
use Rattle.gfa_spec.proofs.Tests.{and_left, and_right, or_left, or_right, same_refl, same_sym}
use Rattle.normalize_spec.specs.Folding.{taken}
use Rattle.work.proofs.Rows.{rows_length, rows_snoc}
use Rattle.tables.specs.declared.tables.Bases.{Bases}
use Rattle.tables.specs.declared.tables.Counts.{Counts}
use Rattle.tables.specs.declared.rows.SegmentWords.{SegmentWords}
use Rattle.tables.specs.ByNumber.{segment_no, SegmentIs}
use Rattle.tables.proofs.ByNumber.{segments_length}
use Rattle.scan.specs.Places.{bytes_in}
use Rattle.normalize_tables.specs.declared.layout.Layout.{Layout}
use Rattle.normalize_tables.specs.News.{new_at, news_at, names_at}

-- ---- names by their places

-- a name that is not in a list is not the one at a place of it
pub absent_at : (x : List ℕ) (xs : List (List ℕ)) (k : ℕ) (d : List ℕ) → any (same x) xs ≡ false → k < length xs → same x (nth k xs d) ≡ false
unfolding any nth
absent_at x [] k d h l = absurd (omega arith)
absent_at x (y ∷ ys) zero d h l = or_left (same x y) (any (same x) ys) h
absent_at x (y ∷ ys) (suc k) d h l = absent_at x ys k d (or_right (same x y) (any (same x) ys) h) (omega arith)

-- In a list without repetition two places hold one name exactly if they are one place.
pub same_place : (xs : List (List ℕ)) (j k : ℕ) → distinct xs ≡ true → j < length xs → k < length xs → same (nth j xs []) (nth k xs []) ≡ eqb j k
unfolding distinct nth
same_place [] j k d l m = absurd (omega arith)
same_place (x ∷ xs) zero zero d l m = same_refl x
same_place (x ∷ xs) zero (suc k) d l m = rw eqb-zero-suc (absent_at x xs k [] (not-true (any (same x) xs) (and_left (not (any (same x) xs)) (distinct xs) d)) (omega arith))
same_place (x ∷ xs) (suc j) zero d l m =
    rw eqb-suc-zero (same_sym (nth j xs []) x ∙ absent_at x xs j [] (not-true (any (same x) xs) (and_left (not (any (same x) xs)) (distinct xs) d)) (omega arith))
same_place (x ∷ xs) (suc j) (suc k) d l m = rw eqb-suc-suc (same_place xs j k (and_right (not (any (same x) xs)) (distinct xs) d) (omega arith) (omega arith))

-- ---- the IDs of the text and of new segments

module _ (text w : List ℕ) (b : Bases) (n : Counts) (g : Layout) (first : ℕ) where
  -- there are as many as segments and new segments
  pub names_length : (q : ℕ) → length (names_at text w b n g first q) ≡ n.segs + q
  unfolding names_at taken news_at
  names_length q = rw (length-append, length-map, length-map, segments_length, rows_length)

  -- one new segment more
  pub news_more : (q : ℕ) → news_at text w b g first (suc q) ≡ news_at text w b g first q ++ (new_at text b g first w q ∷ [])
  unfolding news_at
  news_more q = let place : 0 + 1 * q ≡ q = omega arith in rows_snoc (new_at text b g first) 1 w 0 q ∙ rw place

  -- and its ID behind the others
  pub names_more : (q : ℕ) → names_at text w b n g first (suc q) ≡ names_at text w b n g first q ++ ((new_at text b g first w q).id ∷ [])
  unfolding names_at taken
  names_more q = rw (news_more q, map-append, append_assoc)

-- the ID of a segment of the text, by its row
pub segment_id : {text work : List ℕ} {b : Bases} {i : ℕ} {s : SegmentWords} → SegmentIs text work b i s → bytes_in text s.id ≡ (segment_no text work b i).id
segment_id u = sym (ap (λ x. x.id) u.segment)
