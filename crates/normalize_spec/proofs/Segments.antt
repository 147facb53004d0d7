-- The new segments of a transformation: their IDs are new, different from each other and plain, and their sequences are repeated units. Assumes nothing.
use Prim.Native.Nat.{ℕ, suc}
use native.Mathlib.Omega.{arith}
use mathlib.Core.Bool.{Bool, true, false, not}
use mathlib.Core.List.{List, [], ◌∷◌, ◌++◌, map, map-append, append-nil, append_assoc}
use Rattle.std.specs.Prelude.{Option, None, Some}
use mathlib.Core.Path.{◌≡◌, refl, ◌∙◌}
use borrow.Author.Tests.{lt-ltb}
use Rattle.gfa_spec.specs.Bytes.{same, any, all, repeat, distinct}
use Rattle.gfa_spec.specs.Decimal.{decimal, number_of}
use Rattle.gfa_spec.specs.Reading.{Segment, Path, Entry}
use Rattle.gfa_spec.specs.Records.{segments, paths, sequence_or_empty}
use Rattle.gfa_spec.specs.Runs.{Run, runs}
use Rattle.gfa_spec.proofs.Tests.{by_test, or_left, or_right, same_refl, any_append, all_append, all_implies, apart, distinct_append}
use Rattle.gfa_spec.proofs.Decimal.{number_decimal}
use Rattle.normalize_spec.specs.Folding.{folded, is_folded_run, largest_id, usable, new_id, next_after, New, Made, made_for, taken, new_segment, make_segment, onto, fold_run, keep_run, transform_runs, transform_paths, none_made, transform, turn}
use Rattle.normalize_spec.proofs.Ids.{below, below_number, below_more, new_id_free, new_id_number, next_usable, largest_bound, is_plain_name, new_id_name}

-- ---- what each new segment keeps, all keep

module _ (ss fs : List Segment) (P : Made → Type 0)
    (step : (r : Run) (made : Made) → is_folded_run fs r ≡ true → made_for r.step.name.bytes r.count made.new ≡ None → P made → P (make_segment ss r made)) where
  -- folding a run keeps P
  fold_keeps : (r : Run) (made : Made) (o : Option (List ℕ)) → made_for r.step.name.bytes r.count made.new ≡ o → is_folded_run fs r ≡ true → P made
      → P (fold_run ss r made).made
  unfolding fold_run onto
  fold_keeps r made (Some id) e f h = rw (e, fold_run) h
  fold_keeps r made None e f h = rw (e, fold_run) (step r made f e h)

  -- so does any run
  turn_keeps : (r : Run) (made : Made) → P made → P (turn ss fs r made).made
  unfolding turn keep_run
  turn_keeps r made h =
      by_test (is_folded_run fs r)
      (λ e. rw e (fold_keeps r made (made_for r.step.name.bytes r.count made.new) refl e h))
      (λ e. rw e h)

  -- so do the runs of a path
  pub runs_keep : (rs : List Run) (made : Made) → P made → P (transform_runs ss fs rs made).made
  unfolding transform_runs
  runs_keep [] made h = h
  runs_keep (r ∷ rs) made h = runs_keep rs (turn ss fs r made).made (turn_keeps r made h)

  -- so do all paths
  pub paths_keep : (ps : List Path) (made : Made) → P made → P (transform_paths ss fs ps made).made
  unfolding transform_paths
  paths_keep [] made h = h
  paths_keep (p ∷ ps) made h = paths_keep ps (transform_runs ss fs (runs p.steps) made).made (runs_keep (runs p.steps) made h)

-- ---- sound tables

-- the IDs of the segments
unfoldable pub ids : List Segment → List (List ℕ)
ids ss = map (λ s. s.id) ss

-- the IDs of the new segments
unfoldable pub new_ids : List New → List (List ℕ)
new_ids new = map (λ n. n.id) new

-- is the new segment's sequence its unit, repeated?
unfoldable pub is_repeated : List Segment → New → Bool
is_repeated ss n = same n.sequence (repeat n.count (sequence_or_empty ss n.unit))

-- What holds of the new segments at any time.
pub record SoundTable (ss : List Segment) (made : Made) : Type 0 where
  -- all IDs so far are numbers below the next one, if there is a next one
  pub numbers : (n : ℕ) → made.next ≡ Some n → all (below n) (taken ss made.new) ≡ true
  -- the new IDs differ from the segments' and from each other
  pub outside : apart (ids ss) (new_ids made.new) ≡ true
  pub different : distinct (new_ids made.new) ≡ true
  -- they are not empty, and made of A-Z a-z 0-9 _ . : #
  pub names : all is_plain_name (new_ids made.new) ≡ true
  pub repeated : all (is_repeated ss) made.new ≡ true

-- the table is sound before any segment is made
none_sound : (ss : List Segment) → SoundTable ss (none_made ss)
unfolding none_made taken ids new_ids
none_sound ss = record { numbers = numbers; outside = unfold apart all in refl; different = unfold distinct in refl; names = unfold all in refl; repeated = unfold all in refl }
  where
    numbers : (n : ℕ) → next_after (usable (largest_id 0 ss)) ≡ Some n → all (below n) (ids ss ++ []) ≡ true
    numbers n e =
        let (m, l, b, s) = next_usable (largest_id 0 ss) n e in
        rw (append-nil, s) (largest_bound 0 m ss l).1

-- one more segment takes one more ID
taken_more : (ss : List Segment) (new : List New) (n : New) → taken ss (new ++ (n ∷ [])) ≡ taken ss new ++ (n.id ∷ [])
unfolding taken
taken_more ss new n = rw (map-append, append_assoc)

-- one more segment has one more new ID
new_ids_more : (new : List New) (n : New) → new_ids (new ++ (n ∷ [])) ≡ new_ids new ++ (n.id ∷ [])
unfolding new_ids
new_ids_more new n = rw map-append

-- a test that each passes, and one more
all_more : {A : Type 0} (p : A → Bool) (xs : List A) (x : A) → all p xs ≡ true → p x ≡ true → all p (xs ++ (x ∷ [])) ≡ true
unfolding all
all_more p xs x h e = rw (all_append p xs (x ∷ []), h, e)

-- the number of a new ID is the next one's predecessor
make_numbers : (ss : List Segment) (r : Run) (made : Made) → SoundTable ss made → (m : ℕ) → next_after (usable made.next) ≡ Some m
    → all (below m) (taken ss made.new ++ ((new_segment ss r made).id ∷ [])) ≡ true
unfolding new_segment
make_numbers ss r made h m e =
    let (n, i, l, s) = next_usable made.next m e in
    let old = all_implies (below n) (below (suc n)) (λ x. below_more n x (number_of x) refl) (taken ss made.new) (h.numbers n i) in
    let new = new_id_number (taken ss made.new) r.step.name.bytes r.count made.next n i l in
    rw s (all_more (below (suc n)) (taken ss made.new) (new_id (taken ss made.new) r.step.name.bytes r.count (usable made.next)) old
    (rw new (below_number (suc n) n (decimal n) (number_decimal n (omega arith)) ∙ lt-ltb n (suc n) (omega arith))))

-- one more segment keeps the table sound
make_sound : (ss : List Segment) (r : Run) (made : Made) → SoundTable ss made → SoundTable ss (make_segment ss r made)
unfolding make_segment
make_sound ss r made h =
    let n = new_segment ss r made in
    let free : any (same n.id) (ids ss ++ new_ids made.new) ≡ false = unfold new_segment taken ids new_ids in new_id_free (taken ss made.new) r.step.name.bytes r.count made.next h.numbers in
    let split = rw (any_append (same n.id) (ids ss) (new_ids made.new)) at free in
    let outside = or_left (any (same n.id) (ids ss)) (any (same n.id) (new_ids made.new)) split in
    let different = or_right (any (same n.id) (ids ss)) (any (same n.id) (new_ids made.new)) split in
    record {
      numbers = λ m e. rw taken_more (make_numbers ss r made h m e);
      outside = rw new_ids_more (unfold apart in all_more (λ y. not (any (same y) (ids ss))) (new_ids made.new) n.id h.outside (rw outside));
      different = rw new_ids_more (distinct_append (new_ids made.new) (n.id ∷ []) h.different (unfold distinct any in refl) (unfold apart all in rw different));
      names = rw new_ids_more (all_more is_plain_name (new_ids made.new) n.id h.names (unfold new_segment in new_id_name (taken ss made.new) r.step.name.bytes r.count (usable made.next)));
      repeated = all_more (is_repeated ss) made.new n h.repeated (unfold is_repeated new_segment in same_refl (repeat r.count (sequence_or_empty ss r.step.name.bytes)));
    }

-- the new segments of any paths are sound, whichever segments are folded
pub paths_sound : (ss fs : List Segment) (ps : List Path) → SoundTable ss (transform_paths ss fs ps (none_made ss)).made
paths_sound ss fs ps = paths_keep ss fs (SoundTable ss) (λ r made f e h. make_sound ss r made h) ps (none_made ss) (none_sound ss)

-- and so are those of a text under a cap
pub transform_sound : (es : List Entry) (cap : ℕ) → SoundTable (segments es) (transform es cap).made
unfolding transform
transform_sound es cap = paths_sound (segments es) (folded es cap) (paths es)

-- all IDs differ, if those of the text do
pub sound_differ : (ss : List Segment) (made : Made) → SoundTable ss made → distinct (ids ss) ≡ true → distinct (taken ss made.new) ≡ true
unfolding taken ids new_ids
sound_differ ss made s h = distinct_append (ids ss) (new_ids made.new) h s.different s.outside
