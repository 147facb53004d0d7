-- What is read of a line with all its required columns does not depend on its tags, whether the line is allowed or not. Assumes nothing.
use Prim.Native.Nat.{ℕ, suc, ◌≤◌, ◌<◌}
use native.Mathlib.Omega.{arith}
use mathlib.Core.Bool.{false}
use mathlib.Core.List.{List, [], ◌∷◌, ◌++◌, map, append-nil, map-append}
use Rattle.std.specs.Prelude.{Some}
use Rattle.gfa_spec.specs.Options.{map_or}
use mathlib.Core.Path.{◌≡◌, refl, sym, ap, ◌∙◌}
use borrow.Author.Tests.{eq-eqb, ne_eqb, le-ltb}
use lib.Dec.{eqb, ltb}
use lib.ListN.{length, length-append, length-map}
use Rattle.gfa_spec.specs.Bytes.{same, any, nth, Part, bytes_of, longer, split}
use Rattle.gfa_spec.specs.Reading.{fields, nowhere, field, Read, refused, accepted, then, parse_psteps, parse_wsteps, parse_orientation, parse_s, parse_l, parse_p, parse_w, parse_line, map_read}
use Rattle.gfa_spec.specs.Gfa1.{columns, column, Sort, S, L, P, W, line_sort, expressions}
use Rattle.gfa_spec.specs.Gfa1Read.{path_record, stated, untagged, stated_untagged}
use Rattle.gfa_spec.proofs.Tests.{by_test}
use Rattle.gfa_spec.proofs.Splitting.{split_between, split_some}
use Rattle.gfa_spec.proofs.Gfa1.{fields_columns, parse_as, line_parse}
use Rattle.gfa_spec.proofs.Each.{nth_front}

-- ---- fields, and more fields behind them

-- go by what was read
by_read : {A P : Type 0} (r : Read A) → ((n : ℕ) → r ≡ refused n → P) → ((a : A) → r ≡ accepted a → P) → P
by_read (refused n) stop go = stop n refl
by_read (accepted a) stop go = go a refl

-- a field of the front
field_front : (k : ℕ) (fs ts : List Part) → k < length fs → field k (fs ++ ts) ≡ field k fs
unfolding field bytes_of
field_front k fs ts l = ap bytes_of (nth_front k fs ts nowhere l)

-- a column of the front
column_front : (k : ℕ) (fs ts : List Part) → k ≤ length fs → column k (map bytes_of (fs ++ ts)) ≡ column k (map bytes_of fs)
unfolding column
column_front k fs ts l =
    rw (map-append bytes_of fs ts) (nth_front k ([] ∷ map bytes_of fs) (map bytes_of ts) [] (omega (arith, length-map fs bytes_of)))

-- enough fields are enough with more behind them
enough_front : (n : ℕ) (fs ts : List Part) → n ≤ length fs → (ltb (length fs) n ≡ false) × (ltb (length (fs ++ ts)) n ≡ false)
enough_front n fs ts l = (le-ltb (length fs) n l, le-ltb (length (fs ++ ts)) n (omega (arith, length-append fs ts)))

-- ---- the sorts

-- an S line
s_alike : (ids : List (List ℕ)) (l m : Part) (fs ts : List Part) → 3 ≤ length fs
    → map_read stated_untagged (parse_s ids l (fs ++ ts)) ≡ map_read stated_untagged (parse_s ids m fs)
unfolding map_read parse_s stated_untagged stated untagged map_or
s_alike ids l m fs ts h =
    let long = enough_front 3 fs ts h in
    rw (long.0, long.1, field_front 1 fs ts (omega arith), field_front 2 fs ts (omega arith))
    (by_test (any (same (field 1 fs)) ids) (λ e. rw e) (λ e. rw e))

-- an L line
l_alike : (l m : Part) (fs ts : List Part) → columns l.bytes ≡ map bytes_of (fs ++ ts) → columns m.bytes ≡ map bytes_of fs → 6 ≤ length fs
    → map_read stated_untagged (parse_l l (fs ++ ts)) ≡ map_read stated_untagged (parse_l m fs)
unfolding map_read parse_l stated_untagged stated untagged map_or then
l_alike l m fs ts c d h =
    let long = enough_front 6 fs ts h in
    rw (
      long.0,
      long.1,
      field_front 1 fs ts (omega arith),
      field_front 2 fs ts (omega arith),
      field_front 3 fs ts (omega arith),
      field_front 4 fs ts (omega arith),
    )
    (by_read (parse_orientation 8 (field 2 fs)) (λ n e. rw e) λ a e.
    rw e (by_read (parse_orientation 10 (field 4 fs)) (λ n f. rw f) λ b f. rw (f, c, d, column_front 6 fs ts h)))

-- a P line
p_alike : (fs ts : List Part) → 4 ≤ length fs → map_read stated_untagged (parse_p (fs ++ ts)) ≡ map_read stated_untagged (parse_p fs)
unfolding map_read parse_p stated_untagged stated path_record untagged map_or then
p_alike fs ts h =
    let long = enough_front 3 fs ts (omega arith) in
    let a = ne_eqb (length fs) 3 (λ e. omega arith) in
    let b = ne_eqb (length (fs ++ ts)) 3 (λ e. omega (arith, length-append fs ts)) in
    rw (long.0, long.1, a, b, nth_front 2 fs ts nowhere (omega arith))
    (by_read (parse_psteps (nth 2 fs nowhere)) (λ n e. rw e) λ steps e.
    rw (e, append-nil (map bytes_of (fs ++ ts)), append-nil (map bytes_of fs), column_front 2 fs ts (omega arith), column_front 4 fs ts h))

-- a W line
w_alike : (fs ts : List Part) → 7 ≤ length fs → map_read stated_untagged (parse_w (fs ++ ts)) ≡ map_read stated_untagged (parse_w fs)
unfolding map_read parse_w stated_untagged stated path_record untagged map_or then
w_alike fs ts h =
    let long = enough_front 7 fs ts h in
    rw (long.0, long.1, nth_front 6 fs ts nowhere (omega arith))
    (by_read (parse_wsteps (nth 6 fs nowhere)) (λ n e. rw e) λ steps e.
    rw (
      e,
      column_front 2 fs ts (omega arith),
      column_front 3 fs ts (omega arith),
      column_front 4 fs ts (omega arith),
      column_front 5 fs ts (omega arith),
      column_front 6 fs ts (omega arith),
      column_front 7 fs ts h,
    ))

-- a line of any sort
sort_alike : (s : Sort) (ids : List (List ℕ)) (l m : Part) (fs ts : List Part) → columns l.bytes ≡ map bytes_of (fs ++ ts)
    → columns m.bytes ≡ map bytes_of fs → length (expressions s) < length fs
    → map_read stated_untagged (parse_as s ids l (fs ++ ts)) ≡ map_read stated_untagged (parse_as s ids m fs)
unfolding parse_as expressions
sort_alike S ids l m fs ts c d h = s_alike ids l m fs ts (omega arith)
sort_alike L ids l m fs ts c d h = l_alike l m fs ts c d (omega arith)
sort_alike P ids l m fs ts c d h = p_alike fs ts (omega arith)
sort_alike W ids l m fs ts c d h = w_alike fs ts (omega arith)

-- ---- a line

-- a byte before the first part, others behind
longer_front : (at c : ℕ) (ps qs : List Part) → 1 ≤ length ps → longer at c (ps ++ qs) ≡ longer at c ps ++ qs
unfolding longer
longer_front at c [] qs l = absurd (omega arith)
longer_front at c (p ∷ ps) qs l = refl

-- what is split behind a separator stands behind what is split before it
split_front : (b at : ℕ) (x y : List ℕ) → (ps : List Part) × (split b at (x ++ (b ∷ y)) ≡ split b at x ++ ps)
unfolding split
split_front b at [] y = (split b (suc at) y, rw (eq-eqb b b refl))
split_front b at (c ∷ x) y =
    let (ps, e) = split_front b (suc at) x y in
    (ps, by_test (eqb c b) (λ t. rw (t, e)) (λ t. rw (t, e) (longer_front at c (split b (suc at) x) ps (split_some b (suc at) x))))

-- tags do not change the sort
front_sort : (x y : List ℕ) → line_sort (x ++ (9 ∷ y)) ≡ line_sort x
unfolding line_sort columns
front_sort x y =
    let (ps, e) = split_front 9 0 x y in
    rw (← split_between 9 0 (x ++ (9 ∷ y)), ← split_between 9 0 x, e, column_front 1 (split 9 0 x) ps (split_some 9 0 x))

-- What is read of a line that has all the required columns of its sort is the same whatever tags follow: it is refused with the same
-- number, or the same record is read but for the tags. The line need not be allowed.
pub tags_unread : (s : Sort) (ids : List (List ℕ)) (at : ℕ) (x tags : List ℕ) → line_sort x ≡ Some s → length (expressions s) < length (columns x)
    → map_read stated_untagged (parse_line ids (record { at = at; bytes = x ++ (9 ∷ tags) })) ≡ map_read stated_untagged (parse_line ids (record { at = at; bytes = x }))
unfolding fields
tags_unread s ids at x tags h n =
    let l : Part = record { at = at; bytes = x ++ (9 ∷ tags) } in
    let m : Part = record { at = at; bytes = x } in
    let (ts, e) = split_front 9 at x tags in
    let c : columns (x ++ (9 ∷ tags)) ≡ map bytes_of (split 9 at x ++ ts) = sym (fields_columns l) ∙ ap (map bytes_of) e in
    let d : columns x ≡ map bytes_of (split 9 at x) = sym (fields_columns m) in
    let many : length (expressions s) < length (split 9 at x) = omega (arith, ap length d, length-map (split 9 at x) bytes_of) in
    rw (line_parse s ids l (front_sort x tags ∙ h), line_parse s ids m h, e) (sort_alike s ids l m (split 9 at x) ts c d many)
