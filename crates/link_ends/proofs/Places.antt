-- Nodes by the places of their names. Assumes nothing.
use Prim.Native.Nat.{ℕ, zero, suc, ◌≤◌, ◌<◌}
use native.Mathlib.Omega.{arith}
use mathlib.Core.Bool.{true, false, not}
use mathlib.Core.List.{List, [], ◌∷◌, ◌++◌}
use Rattle.std.specs.Prelude.{Option, option_map, None, Some}
use Rattle.std.specs.Option.{option_eq}
use mathlib.Core.Path.{◌≡◌, refl, sym, ◌∙◌}
use lib.Dec.{eqb, eqb-zero-suc, eqb-suc-zero, eqb-suc-suc}
use lib.ListN.{length, length-map}
use borrow.Author.Tests.{eq-eqb}
use Rattle.gfa_spec.specs.Bytes.{same, any, nth, distinct}
use Rattle.gfa_spec.specs.Reading.{Segment}
use Rattle.gfa_spec.specs.Records.{segment_number}
use Rattle.gfa_spec.proofs.Options.{Some-injective, None-ne-Some, Some-ne-None}
use Rattle.gfa_spec.proofs.Tests.{by_test, and_right, same_equal}
use Rattle.gfa_spec.proofs.Counting.{map_none, map_some}
use Rattle.tables.specs.Segments.{ids_of}
use Rattle.normalize_tables.specs.News.{place_of}
use Rattle.normalize_tables.proofs.Nodes.{same_place}
use Rattle.new_ids.proofs.Finding.{place_number, place_front}

-- ---- places

first_place : (o : Option ℕ) → option_eq eqb (option_map suc o) (Some 0) ≡ false
first_place None = refl
first_place (Some k) = eqb-suc-zero k

next_place : (o : Option ℕ) (x : ℕ) → option_eq eqb (option_map suc o) (Some (suc x)) ≡ option_eq eqb o (Some x)
next_place None x = refl
next_place (Some k) x = eqb-suc-suc k x

-- In a list without repetition the name at place x is another exactly if x is the place of that.
pub place_says : (names : List (List ℕ)) (name : List ℕ) (x : ℕ) → distinct names ≡ true → x < length names → same (nth x names []) name ≡ option_eq eqb (place_of names name) (Some x)
unfolding place_of nth distinct
place_says [] name x d l = absurd (omega arith)
place_says (y ∷ ys) name zero d l = by_test (same y name) (λ e. rw e (sym (eq-eqb 0 0 refl))) (λ e. rw e (sym (first_place (place_of ys name))))
place_says (y ∷ ys) name (suc x) d l =
    by_test (same y name)
    (λ e. rw (e, ← same_equal y name e) (same_place (y ∷ ys) (suc x) 0 d l (omega arith) ∙ eqb-suc-zero x ∙ sym (eqb-zero-suc x)))
    (λ e. rw (e, next_place (place_of ys name) x) (place_says ys name x (and_right (not (any (same y) ys)) (distinct ys) d) (omega arith)))

-- a place is within the list
place_within : (xs : List (List ℕ)) (x : List ℕ) (k : ℕ) → place_of xs x ≡ Some k → k < length xs
unfolding place_of
place_within [] x k e = absurd (None-ne-Some k e)
place_within (y ∷ xs) x k e =
    by_test (same y x)
    (λ t. let first : 0 ≡ k = Some-injective 0 k (rw t at e) in omega arith)
    (λ t. let (j, o, z) = map_some (place_of xs x) k (rw t at e) in omega (arith, place_within xs x j o))

-- a place that only a longer list has is behind the list
place_behind : (xs ys : List (List ℕ)) (x : List ℕ) (k : ℕ) → place_of xs x ≡ None → place_of (xs ++ ys) x ≡ Some k → length xs ≤ k
unfolding place_of
place_behind [] ys x k n e = omega arith
place_behind (y ∷ xs) ys x k n e =
    by_test (same y x)
    (λ t. absurd (Some-ne-None 0 (rw t at n)))
    (λ t. let (j, o, z) = map_some (place_of (xs ++ ys) x) k (rw t at e) in omega (arith, place_behind xs ys x j (map_none (place_of xs x) (rw t at n)) o))

-- ---- the segments of the text

by_number : {P : Type 0} (o : Option ℕ) → (o ≡ None → P) → ((k : ℕ) → o ≡ Some k → P) → P
by_number None f h = f refl
by_number (Some k) f h = h k refl

module _ (ss : List Segment) (more : List (List ℕ)) (name : List ℕ) where
  as_place : {o : Option ℕ} → segment_number ss name ≡ o → place_of (ids_of ss) name ≡ o
  unfolding ids_of
  as_place e = place_number ss name ∙ e

  many : length (ids_of ss) ≡ length ss
  unfolding ids_of
  many = length-map ss _

  -- a name whose place is none of the segments' is no segment's
  pub place_other : ((k : ℕ) → place_of (ids_of ss ++ more) name ≡ Some k → length ss ≤ k) → segment_number ss name ≡ None
  place_other h =
      by_number (segment_number ss name)
      (λ o. o)
      (λ k o. (let l = h k (place_front (ids_of ss) more name k (as_place o)) in absurd (omega (arith, place_within (ids_of ss) name k (as_place o), many))))

  -- any other place is that of a segment
  pub place_segment : (k : ℕ) → place_of (ids_of ss ++ more) name ≡ Some k → k < length ss → segment_number ss name ≡ Some k
  place_segment k e l =
      by_number (segment_number ss name)
      (λ o. absurd (omega (arith, place_behind (ids_of ss) more name k (as_place o) e, many)))
      (λ j o. o ∙ sym (place_front (ids_of ss) more name j (as_place o)) ∙ e)
