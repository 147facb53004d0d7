-- How the specification's definition cuts a P list and a walk: nothing is lost, and each name of a P list is a segment name. Assumes nothing.
use Prim.Native.Nat.{ℕ}
use mathlib.Core.Bool.{Bool, true, false, cond, not, false≢true, and-eq-true_iff}
use mathlib.Core.List.{List, [], ◌∷◌, map, drop_last}
use mathlib.Core.Path.{◌≡◌, refl, sym}
use borrow.Author.Tests.{eqb-true}
use Rattle.gfa_spec.specs.Bytes.{is_empty, all, join, join_with, prepend, last_byte}
use Rattle.gfa_spec.specs.Gfa1.{is_name, is_sign, ends_item, holds_end, is_segment_name, items, is_item, are_items, starts_step, walk_steps, item_visit}
use Rattle.gfa_spec.proofs.Tests.{by_test, both, cons_all}
use Rattle.gfa_spec.proofs.Gfa1Steps.{ends_item_bytes}

-- ---- joining again

-- the byte before the first string is the first of what is joined
join_prepend : (b : ℕ) (ss : List (List ℕ)) → join_with 44 (prepend b ss) ≡ b ∷ join_with 44 ss
unfolding join_with prepend
join_prepend b [] = refl
join_prepend b (s ∷ []) = refl
join_prepend b (s ∷ (t ∷ ts)) = refl

-- a string before others is followed by a comma
join_next : (b : ℕ) (ss : List (List ℕ)) → is_empty ss ≡ false → join_with 44 ((b ∷ []) ∷ ss) ≡ b ∷ (44 ∷ join_with 44 ss)
unfolding join_with is_empty
join_next b [] h = absurd (false≢true (sym h))
join_next b (s ∷ ss) h = refl

-- what an item begins with, and that there is one
record First (b : ℕ) (bs : List ℕ) : Type 0 where
  item : List ℕ
  more : List (List ℕ)
  cut : items (b ∷ bs) ≡ (b ∷ item) ∷ more

-- the clause of `items`
items_cons : (b c : ℕ) (bs : List ℕ) → items (b ∷ (c ∷ bs)) ≡ cond (ends_item b c) ((b ∷ []) ∷ items bs) (prepend b (items (c ∷ bs)))
unfolding items
items_cons b c bs = refl

-- the first item begins where the list does
items_first : (b : ℕ) (bs : List ℕ) → First b bs
unfolding prepend
items_first b [] = unfold items in record { item = []; more = []; cut = refl }
items_first b (c ∷ bs) =
    let f : First c bs = items_first c bs in
    by_test (ends_item b c)
    (λ e. record { item = []; more = items bs; cut = rw (items_cons b c bs, e) })
    (λ e. record { item = c ∷ f.item; more = f.more; cut = rw (items_cons b c bs, e, f.cut) })

-- there is an item
items_some : (s : List ℕ) → is_empty (items s) ≡ false
unfolding is_empty
items_some [] = unfold items in refl
items_some (b ∷ bs) = rw (items_first b bs).cut

-- the items with commas between are the field
pub items_join : (s : List ℕ) → join_with 44 (items s) ≡ s
items_join [] = unfold items join_with in refl
items_join (b ∷ []) = unfold items join_with in refl
items_join (b ∷ (c ∷ bs)) =
    by_test (ends_item b c)
    (λ e. let comma : c ≡ 44 = eqb-true c 44 (ends_item_bytes b c e).1 in
    rw (items_cons b c bs, e, join_next b (items bs) (items_some bs), items_join bs, comma))
    (λ e. rw (items_cons b c bs, e, join_prepend, items_join (c ∷ bs)))

-- the byte before the first string, in a row
row_prepend : (b : ℕ) (ss : List (List ℕ)) → join (prepend b ss) ≡ b ∷ join ss
unfolding join prepend
row_prepend b [] = refl
row_prepend b (s ∷ ss) = refl

-- the steps in a row are the walk
pub steps_join : (s : List ℕ) → join (walk_steps s) ≡ s
unfolding walk_steps join
steps_join [] = refl
steps_join (b ∷ bs) = by_test (starts_step bs) (λ e. rw (e, steps_join bs)) (λ e. rw (e, row_prepend b (walk_steps bs), steps_join bs))

-- ---- names

-- no item ends within a string
unfoldable whole : List ℕ → Bool
whole i = not (holds_end i)

-- a string that begins with two bytes is whole where these do not end an item, and the rest is whole
whole_cons : (b c : ℕ) (i : List ℕ) → ends_item b c ≡ false → whole (c ∷ i) ≡ true → whole (b ∷ (c ∷ i)) ≡ true
unfolding whole holds_end
whole_cons b c i e h = rw e h

-- a single byte is whole
one_whole : (b : ℕ) → whole (b ∷ []) ≡ true
unfolding whole holds_end
one_whole b = refl

-- each item is whole
items_whole : (s : List ℕ) → all whole (items s) ≡ true
unfolding all prepend
items_whole [] = unfold items whole holds_end in refl
items_whole (b ∷ []) = unfold items whole holds_end in refl
items_whole (b ∷ (c ∷ bs)) =
    let f : First c bs = items_first c bs in
    by_test (ends_item b c)
    (λ e. rw (items_cons b c bs, e) (cons_all whole (b ∷ []) (items bs) (one_whole b) (items_whole bs)))
    (λ e. let hs = both {a = whole (c ∷ f.item)} (rw f.cut at (items_whole (c ∷ bs))) in
    rw (items_cons b c bs, e, f.cut) (cons_all whole (b ∷ (c ∷ f.item)) f.more (whole_cons b c f.item e hs.0) hs.1))

-- and so is its name
whole_parts : (b c : ℕ) (i : List ℕ) → whole (b ∷ (c ∷ i)) ≡ true → (ends_item b c ≡ false) × (whole (c ∷ i) ≡ true)
unfolding whole holds_end
whole_parts b c i h = by_test (ends_item b c) (λ e. absurd (false≢true (rw e at h))) (λ e. (e, rw e at h))

-- a whole string is whole without its last byte
whole_name : (i : List ℕ) → whole i ≡ true → whole (drop_last i) ≡ true
whole_name [] h = h
whole_name (b ∷ []) h = unfold whole holds_end in refl
whole_name (b ∷ (c ∷ [])) h = one_whole b
whole_name (b ∷ (c ∷ (d ∷ i))) h =
    let k = whole_parts b c (d ∷ i) h in
    whole_cons b c (drop_last (d ∷ i)) k.0 (whole_name (c ∷ (d ∷ i)) k.1)

-- the name of a whole item is a segment name
names_whole : (is : List (List ℕ)) → all is_item is ≡ true → all whole is ≡ true → all (λ v. is_segment_name v.name) (map item_visit is) ≡ true
unfolding all is_item whole is_segment_name item_visit
names_whole [] h k = refl
names_whole (i ∷ is) h k =
    let hs = both h in
    let ks = both k in
    cons_all (λ v. is_segment_name v.name) (item_visit i) (map item_visit is)
    ((and-eq-true_iff (is_name (drop_last i)) (not (holds_end (drop_last i)))).1 ((both {a = is_sign (last_byte i)} hs.0).1, whole_name i ks.0))
    (names_whole is hs.1 ks.1)

-- each name of a P list that is allowed is a segment name
pub items_names : (f : List ℕ) → are_items f ≡ true → all (λ v. is_segment_name v.name) (map item_visit (items f)) ≡ true
unfolding are_items
items_names f h = names_whole (items f) h (items_whole f)
