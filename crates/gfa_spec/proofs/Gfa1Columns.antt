-- The record that a line states holds every column of the line. Assumes nothing.
use Prim.Native.Nat.{ℕ, suc, zero, ◌<◌}
use native.Mathlib.Omega.{arith}
use mathlib.Core.Bool.{true, false≢true, true≢false}
use mathlib.Core.List.{List, [], ◌∷◌, ◌++◌, map, tail, drop_last}
use Rattle.std.specs.Prelude.{Option, None, Some}
use Rattle.gfa_spec.specs.Options.{map_or}
use Rattle.gfa_spec.proofs.Options.{None-ne-Some}
use mathlib.Core.Path.{◌≡◌, refl, sym, ap, ◌∙◌}
use lib.ListN.{length, drop}
use Rattle.gfa_spec.specs.Bytes.{bytes, same, all, nth, last_byte, join_with}
use Rattle.gfa_spec.specs.Gfa1.{in_class, is_sign, is_orientation, items, is_item, are_items, columns, column, Sort, S, L, P, W, line_sort, expressions, begins, allows_untagged, Record, item_visit, record_of, states, item_of, columns_of}
use Rattle.gfa_spec.proofs.Tests.{by_test, both, same_equal}
use Rattle.gfa_spec.proofs.Gfa1Cuts.{items_join}
use Rattle.gfa_spec.proofs.Gfa1.{begins_length, begins_at, letter_of, sort_letter, begins_none, allows_begins, none_states, sort_states}

-- ---- parts

-- an element, and those behind it
drop_nth : (k : ℕ) (cs : List (List ℕ)) → k < length cs → nth k cs [] ∷ drop (suc k) cs ≡ drop k cs
unfolding nth
drop_nth k [] l = absurd (omega arith)
drop_nth zero (c ∷ cs) l = refl
drop_nth (suc k) (c ∷ cs) l = drop_nth k cs (omega arith)

-- an orientation is one byte
orientation_one : (f : List ℕ) → is_orientation f ≡ true → last_byte f ∷ [] ≡ f
unfolding is_orientation last_byte bytes
orientation_one f h = by_test (same f (bytes "+")) (λ e. rw (same_equal f (bytes "+") e)) (λ e. rw (same_equal f (bytes "-") (rw e at h)))

-- a string is what stands before its last byte, and that byte
last_again : (b : ℕ) (i : List ℕ) → drop_last (b ∷ i) ++ (last_byte (b ∷ i) ∷ []) ≡ b ∷ i
unfolding last_byte
last_again b [] = refl
last_again b (c ∷ i) = ap (λ (l : List ℕ). b ∷ l) (last_again c i)

-- the item of an item's visit is the item
item_again : (i : List ℕ) → is_item i ≡ true → item_of (item_visit i) ≡ i
unfolding item_of item_visit
item_again [] h = absurd (false≢true (unfold is_item is_sign in_class last_byte bytes in h))
item_again (b ∷ i) h = last_again b i

-- and so of several
items_again : (is : List (List ℕ)) → all is_item is ≡ true → map item_of (map item_visit is) ≡ is
unfolding all
items_again [] h = refl
items_again (i ∷ is) h = let hs = both h in rw (item_again i hs.0, items_again is hs.1)

-- a P list is the items of its visits
list_again : (f : List ℕ) → are_items f ≡ true → join_with 44 (map item_of (map item_visit (items f))) ≡ f
unfolding are_items
list_again f h = rw (items_again (items f) h) (items_join f)

-- ---- the sorts

-- an S line
s_columns : (c : List ℕ) (cs : List (List ℕ)) → c ≡ letter_of S → begins (expressions S) cs ≡ true → columns_of (record_of S (c ∷ cs)) ≡ c ∷ cs
unfolding columns_of record_of letter_of column nth expressions
s_columns c cs e h =
    let n = begins_length (expressions S) cs h in
    rw (e, drop_nth 1 cs (omega arith), drop_nth 0 cs (omega arith))

-- an L line
l_columns : (c : List ℕ) (cs : List (List ℕ)) → c ≡ letter_of L → begins (expressions L) cs ≡ true → columns_of (record_of L (c ∷ cs)) ≡ c ∷ cs
unfolding columns_of record_of letter_of column nth expressions
l_columns c cs e h =
    let n = begins_length (expressions L) cs h in
    let a = orientation_one (nth 1 cs []) (begins_at 1 (expressions L) cs (omega arith) h) in
    let b = orientation_one (nth 3 cs []) (begins_at 3 (expressions L) cs (omega arith) h) in
    rw (
      e,
      a,
      b,
      drop_nth 4 cs (omega arith),
      drop_nth 3 cs (omega arith),
      drop_nth 2 cs (omega arith),
      drop_nth 1 cs (omega arith),
      drop_nth 0 cs (omega arith),
    )

-- a P line
p_columns : (c : List ℕ) (cs : List (List ℕ)) → c ≡ letter_of P → begins (expressions P) cs ≡ true → columns_of (record_of P (c ∷ cs)) ≡ c ∷ cs
unfolding columns_of record_of letter_of column nth expressions
p_columns c cs e h =
    let n = begins_length (expressions P) cs h in
    rw (
      e,
      list_again (nth 1 cs []) (begins_at 1 (expressions P) cs (omega arith) h),
      drop_nth 2 cs (omega arith),
      drop_nth 1 cs (omega arith),
      drop_nth 0 cs (omega arith),
    )

-- a W line
w_columns : (c : List ℕ) (cs : List (List ℕ)) → c ≡ letter_of W → begins (expressions W) cs ≡ true → columns_of (record_of W (c ∷ cs)) ≡ c ∷ cs
unfolding columns_of record_of letter_of column nth expressions
w_columns c cs e h =
    let n = begins_length (expressions W) cs h in
    rw (
      e,
      drop_nth 5 cs (omega arith),
      drop_nth 4 cs (omega arith),
      drop_nth 3 cs (omega arith),
      drop_nth 2 cs (omega arith),
      drop_nth 1 cs (omega arith),
      drop_nth 0 cs (omega arith),
    )

-- a line of any sort
sort_columns : (s : Sort) (cs : List (List ℕ)) → column 1 cs ≡ letter_of s → begins (expressions s) (tail cs) ≡ true → columns_of (record_of s cs) ≡ cs
unfolding column nth
sort_columns s [] e h = absurd (true≢false (sym h ∙ begins_none s))
sort_columns S (c ∷ cs) e h = s_columns c cs e h
sort_columns L (c ∷ cs) e h = l_columns c cs e h
sort_columns P (c ∷ cs) e h = p_columns c cs e h
sort_columns W (c ∷ cs) e h = w_columns c cs e h

-- ---- a line

-- a line of a sort that states something has the required columns of the sort
states_begins : (s : Sort) (line : List ℕ) (r : Record) → line_sort line ≡ Some s → states line ≡ Some r → allows_untagged line ≡ true
unfolding states map_or
states_begins s line r e h = by_test (allows_untagged line) (λ t. t) (λ t. absurd (None-ne-Some r (rw (e, t) at h)))

-- A line's columns are those of the record that it states: the record leaves none out.
pub states_columns : (line : List ℕ) (r : Record) → states line ≡ Some r → columns_of r ≡ columns line
states_columns line r h = by_sort (line_sort line) refl
  where
    by_sort : (o : Option Sort) → line_sort line ≡ o → columns_of r ≡ columns line
    by_sort None e = absurd (None-ne-Some r (sym (none_states line e) ∙ h))
    by_sort (Some s) e =
        let a : allows_untagged line ≡ true = states_begins s line r e h in
        let k : r ≡ record_of s (columns line) = cc (h, sort_states s line e a) in
        rw k (sort_columns s (columns line) (sort_letter (column 1 (columns line)) s (unfold line_sort in e)) (allows_begins s line e a))
