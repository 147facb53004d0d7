-- Of the lines that GFA 1.0 and 1.1 allow, no segment name holding a comma, the reader reads the records that the specification states.
-- Assumes nothing.
use Prim.Native.Nat.{ℕ, suc, ◌≤◌, ◌<◌, zero}
use native.Mathlib.Omega.{arith}
use mathlib.Core.Bool.{Bool, true, false, true≢false, false≢true, and-eq-true_iff}
use mathlib.Core.List.{List, [], ◌∷◌, map, tail, append-nil}
use mathlib.Core.Logic.{◌↔◌}
use Rattle.std.specs.Prelude.{Option, None, Some}
use Rattle.gfa_spec.specs.Options.{map_or}
use Rattle.gfa_spec.proofs.Options.{None-ne-Some, Some-ne-None}
use mathlib.Core.Path.{◌≡◌, refl, sym, ap, ◌∙◌}
use lib.Dec.{eqb, ltb}
use lib.ListN.{length, length-map}
use borrow.Author.Tests.{eqb-true, ne_eqb, le-ltb}
use Rattle.gfa_spec.specs.Bytes.{bytes, same, is_empty, any, all, nth, Part, bytes_of, prepend, between, last_byte}
use Rattle.gfa_spec.specs.Reading.{fields, nowhere, field, Entry, Read, accepted, then, parse_psteps, parse_wsteps, parse_orientation, parse_s, parse_l, parse_p, parse_w, parse_fields, starts_comment, parse_line, map_read}
use Rattle.gfa_spec.specs.Reading as reading
use Rattle.gfa_spec.specs.Gfa1.{is_name, is_orientation, is_tag, items, are_items, walk_steps, is_walk, columns, column, Sort, S, L, P, W, sort_of, line_sort, expressions, begins, fits, allows_untagged, allows, broken_from, first_broken, Record, item_visit, walk_visit, record_of, states, no_comma_in, no_comma}
use Rattle.gfa_spec.specs.Gfa1Read.{path_record, stated, name_in, known, expected}
use Rattle.gfa_spec.proofs.Tests.{by_test, both, same_equal}
use Rattle.gfa_spec.proofs.Splitting.{split_between}
use Rattle.gfa_spec.proofs.Gfa1Steps.{ReadAs, p_steps, w_steps}
use Rattle.gfa_spec.proofs.Each.{nth_map}

-- ---- columns

-- the reader counts fields from 0, the specification columns from 1
pub field_column : (k : ℕ) (fs : List Part) → field k fs ≡ column (suc k) (map bytes_of fs)
unfolding field column nth nowhere bytes_of
field_column k fs = sym (nth_map bytes_of k fs nowhere)

-- a line that begins as it must has all required columns
pub begins_length : (es : List (List ℕ → Bool)) (cs : List (List ℕ)) → begins es cs ≡ true → length es ≤ length cs
unfolding begins
begins_length [] cs h = omega arith
begins_length (e ∷ es) [] h = absurd (false≢true h)
begins_length (e ∷ es) (c ∷ cs) h = omega (arith, begins_length es cs ((and-eq-true_iff (e c) (begins es cs)).0 h).1)

-- and each matches its expression
pub begins_at : (k : ℕ) (es : List (List ℕ → Bool)) (cs : List (List ℕ)) → k < length es → begins es cs ≡ true → nth k es is_name (nth k cs []) ≡ true
unfolding begins nth
begins_at k [] cs l h = absurd (omega arith)
begins_at k (e ∷ es) [] l h = absurd (false≢true h)
begins_at zero (e ∷ es) (c ∷ cs) l h = ((and-eq-true_iff (e c) (begins es cs)).0 h).0
begins_at (suc k) (e ∷ es) (c ∷ cs) l h = begins_at k es cs (omega arith) ((and-eq-true_iff (e c) (begins es cs)).0 h).1

-- ---- lines

-- such a line has enough fields
enough : (n : ℕ) (es : List (List ℕ → Bool)) (f : Part) (fs : List Part) → n ≤ suc (length es) → begins es (map bytes_of fs) ≡ true → ltb (length (f ∷ fs)) n ≡ false
enough n es f fs l h = le-ltb (suc (length fs)) n (omega (arith, begins_length es (map bytes_of fs) h, length-map fs bytes_of))

-- and more fields than any fewer
more_than : (n : ℕ) (es : List (List ℕ → Bool)) (f : Part) (fs : List Part) → n ≤ length es → begins es (map bytes_of fs) ≡ true → eqb (length (f ∷ fs)) n ≡ false
more_than n es f fs l h = ne_eqb (suc (length fs)) n (λ e. omega (arith, begins_length es (map bytes_of fs) h, length-map fs bytes_of))

-- an S line is read as the record of its columns, or refused as 6
s_reads : (ids : List (List ℕ)) (line f : Part) (fs : List Part) → columns line.bytes ≡ map bytes_of (f ∷ fs) → begins (expressions S) (map bytes_of fs) ≡ true
    → map_read stated (parse_s ids line (f ∷ fs)) ≡ expected ids (Some (record_of S (map bytes_of (f ∷ fs))))
unfolding map_read parse_s expected known name_in any record_of stated then expressions
s_reads ids line f fs c h =
    rw (enough 3 (expressions S) f fs (omega arith) h, field_column 1 (f ∷ fs), field_column 2 (f ∷ fs))
    (by_test (any (same (column 2 (map bytes_of (f ∷ fs)))) ids) (λ e. rw e) (λ e. rw (e, c)))

-- the reader reads an orientation that matches its expression
orientation_reads : (n : ℕ) (f : List ℕ) → is_orientation f ≡ true → parse_orientation n f ≡ accepted (last_byte f)
unfolding is_orientation parse_orientation reading.is_orientation last_byte bytes
orientation_reads n f h =
    by_test (same f (bytes "+"))
    (λ e. rw (same_equal f (bytes "+") e))
    (λ e. rw (same_equal f (bytes "-") (rw e at h)))

-- an L line is read as the record of its columns
l_reads : (ids : List (List ℕ)) (line f : Part) (fs : List Part) → columns line.bytes ≡ map bytes_of (f ∷ fs) → begins (expressions L) (map bytes_of fs) ≡ true
    → map_read stated (parse_l line (f ∷ fs)) ≡ expected ids (Some (record_of L (map bytes_of (f ∷ fs))))
unfolding map_read parse_l expected known name_in any record_of stated then expressions
l_reads ids line f fs c h =
    let cs : List (List ℕ) = map bytes_of (f ∷ fs) in
    let a : is_orientation (column 3 cs) ≡ true = unfold column nth in begins_at 1 (expressions L) (map bytes_of fs) (omega arith) h in
    let b : is_orientation (column 5 cs) ≡ true = unfold column nth in begins_at 3 (expressions L) (map bytes_of fs) (omega arith) h in
    rw (
      enough 6 (expressions L) f fs (omega arith) h,
      field_column 1 (f ∷ fs),
      field_column 2 (f ∷ fs),
      field_column 3 (f ∷ fs),
      field_column 4 (f ∷ fs),
      orientation_reads 8 (column 3 cs) a,
      orientation_reads 10 (column 5 cs) b,
      c,
    )

-- a P line is read as the record of its columns, where no segment name holds a comma
p_reads : (ids : List (List ℕ)) (f : Part) (fs : List Part) → begins (expressions P) (map bytes_of fs) ≡ true
    → no_comma_in (record_of P (map bytes_of (f ∷ fs))) ≡ true
    → map_read stated (parse_p (f ∷ fs)) ≡ expected ids (Some (record_of P (map bytes_of (f ∷ fs))))
unfolding map_read parse_p expected known name_in any record_of stated path_record then expressions no_comma_in
p_reads ids f fs h k =
    let list : Part = nth 2 (f ∷ fs) nowhere in
    let e : list.bytes ≡ column 3 (map bytes_of (f ∷ fs)) = unfold field in field_column 2 (f ∷ fs) in
    let a : are_items (column 3 (map bytes_of (f ∷ fs))) ≡ true = unfold column nth in begins_at 1 (expressions P) (map bytes_of fs) (omega arith) h in
    let r : ReadAs (map item_visit (items list.bytes)) (parse_psteps list) = p_steps list (rw e a) (rw e k) in
    rw (enough 3 (expressions P) f fs (omega arith) h, r.accepts, more_than 3 (expressions P) f fs (omega arith) h, append-nil (map bytes_of fs), r.equal, e)

-- a W line is read as the record of its columns
w_reads : (ids : List (List ℕ)) (f : Part) (fs : List Part) → begins (expressions W) (map bytes_of fs) ≡ true
    → map_read stated (parse_w (f ∷ fs)) ≡ expected ids (Some (record_of W (map bytes_of (f ∷ fs))))
unfolding map_read parse_w expected known name_in any record_of stated path_record then expressions
w_reads ids f fs h =
    let steps : Part = nth 6 (f ∷ fs) nowhere in
    let e : steps.bytes ≡ column 7 (map bytes_of (f ∷ fs)) = unfold field in field_column 6 (f ∷ fs) in
    let a : is_walk (column 7 (map bytes_of (f ∷ fs))) ≡ true = unfold column nth in begins_at 5 (expressions W) (map bytes_of fs) (omega arith) h in
    let r : ReadAs (map walk_visit (walk_steps steps.bytes)) (parse_wsteps steps) = w_steps steps.at steps.bytes (rw e a) in
    rw (enough 7 (expressions W) f fs (omega arith) h, r.accepts, r.equal, e)

-- ---- the sorts

-- the letter of a sort
unfoldable pub letter_of : Sort → List ℕ
letter_of S = bytes "S"
letter_of L = bytes "L"
letter_of P = bytes "P"
letter_of W = bytes "W"

-- the sort that a letter passed for, if it is that sort's
same_letter : (f : List ℕ) (s t : Sort) → same f (letter_of s) ≡ true → Some s ≡ Some t → f ≡ letter_of t
same_letter f s t h e = let k : s ≡ t = cc in same_equal f (letter_of s) h ∙ ap letter_of k

-- only its letter names a sort
pub sort_letter : (f : List ℕ) (s : Sort) → sort_of f ≡ Some s → f ≡ letter_of s
unfolding sort_of letter_of
sort_letter f s h =
    by_test (same f (bytes "S")) (λ e. same_letter f S s e (rw e at h)) λ e.
    by_test (same f (bytes "L")) (λ d. same_letter f L s d (rw (e, d) at h)) λ d.
    by_test (same f (bytes "P")) (λ c. same_letter f P s c (rw (e, d, c) at h)) λ c.
    by_test (same f (bytes "W")) (λ b. same_letter f W s b (rw (e, d, c, b) at h)) λ b.
    absurd (None-ne-Some s (rw (e, d, c, b) at h))

-- the reader at a sort
unfoldable pub parse_as : Sort → List (List ℕ) → Part → List Part → Read Entry
parse_as S ids line fs = parse_s ids line fs
parse_as L ids line fs = parse_l line fs
parse_as P ids line fs = parse_p fs
parse_as W ids line fs = parse_w fs

-- the reader goes by the same letters
sort_parse : (s : Sort) (ids : List (List ℕ)) (line : Part) (fs : List Part) → field 0 fs ≡ letter_of s → parse_fields ids line fs ≡ parse_as s ids line fs
unfolding parse_fields parse_as letter_of same bytes
sort_parse S ids line fs e = rw e
sort_parse L ids line fs e = rw e
sort_parse P ids line fs e = rw e
sort_parse W ids line fs e = rw e

-- every sort has required columns
pub begins_none : (s : Sort) → begins (expressions s) [] ≡ false
unfolding begins expressions
begins_none S = refl
begins_none L = refl
begins_none P = refl
begins_none W = refl

-- a line is read as the record of its columns
sort_reads : (s : Sort) (ids : List (List ℕ)) (line : Part) (fs : List Part) → columns line.bytes ≡ map bytes_of fs
    → begins (expressions s) (tail (map bytes_of fs)) ≡ true → no_comma_in (record_of s (map bytes_of fs)) ≡ true
    → map_read stated (parse_as s ids line fs) ≡ expected ids (Some (record_of s (map bytes_of fs)))
unfolding parse_as
sort_reads s ids line [] c h k = absurd (true≢false (sym h ∙ begins_none s))
sort_reads S ids line (f ∷ fs) c h k = s_reads ids line f fs c h
sort_reads L ids line (f ∷ fs) c h k = l_reads ids line f fs c h
sort_reads P ids line (f ∷ fs) c h k = p_reads ids f fs h k
sort_reads W ids line (f ∷ fs) c h k = w_reads ids f fs h

-- a letter is no empty string, and starts no comment
letter_starts : (t : Sort) → (is_empty (letter_of t) ≡ false) × (starts_comment (letter_of t) ≡ false)
unfolding letter_of is_empty starts_comment bytes
letter_starts S = (refl, refl)
letter_starts L = (refl, refl)
letter_starts P = (refl, refl)
letter_starts W = (refl, refl)

-- a string with a byte put before it starts a comment where that byte is #
prepend_starts : (b : ℕ) (ss : List (List ℕ)) → starts_comment (column 1 (prepend b ss)) ≡ eqb b 35
unfolding starts_comment column prepend nth
prepend_starts b [] = refl
prepend_starts b (s ∷ ss) = refl

-- a line starts a comment where its first column does
column_starts : (s : List ℕ) → starts_comment s ≡ starts_comment (column 1 (columns s))
unfolding starts_comment columns between column nth
column_starts [] = refl
column_starts (b ∷ bs) =
    by_test (eqb b 9)
    (λ e. rw (eqb-true b 9 e))
    (λ e. rw e (sym (prepend_starts b (between 9 bs))))

-- a line with a sort's letter is neither blank nor a comment
sort_starts : (s : List ℕ) (t : Sort) → column 1 (columns s) ≡ letter_of t → (is_empty s ≡ false) × (starts_comment s ≡ false)
unfolding is_empty columns between column nth
sort_starts [] t e = absurd (true≢false (ap is_empty e ∙ (letter_starts t).0))
sort_starts (b ∷ bs) t e = (refl, column_starts (b ∷ bs) ∙ ap starts_comment e ∙ (letter_starts t).1)

-- ---- the claim

-- the fields of a line are its columns, with their places
pub fields_columns : (line : Part) → map bytes_of (fields line) ≡ columns line.bytes
unfolding fields columns
fields_columns line = split_between 9 line.at line.bytes

-- a line of a sort is parsed as that sort
pub line_parse : (s : Sort) (ids : List (List ℕ)) (line : Part) → line_sort line.bytes ≡ Some s → parse_line ids line ≡ parse_as s ids line (fields line)
unfolding parse_line line_sort
line_parse s ids line e =
    let letter : column 1 (columns line.bytes) ≡ letter_of s = sort_letter (column 1 (columns line.bytes)) s e in
    let starts = sort_starts line.bytes s letter in
    rw (starts.0, starts.1) (sort_parse s ids line (fields line) (field_column 0 (fields line) ∙ ap (column 1) (fields_columns line) ∙ letter))

-- and if it begins as it must, read as the record of its columns
pub line_reads : (s : Sort) (ids : List (List ℕ)) (line : Part) → line_sort line.bytes ≡ Some s
    → begins (expressions s) (tail (columns line.bytes)) ≡ true → no_comma_in (record_of s (columns line.bytes)) ≡ true
    → map_read stated (parse_line ids line) ≡ expected ids (Some (record_of s (columns line.bytes)))
line_reads s ids line e h k =
    let c = fields_columns line in
    rw (line_parse s ids line e) (rw c at (sort_reads s ids line (fields line) (sym c) (rw c h) (rw c k)))

-- a line of no sort is not allowed
none_allows : (line : List ℕ) → line_sort line ≡ None → allows_untagged line ≡ false
unfolding allows_untagged map_or
none_allows line e = rw e

-- and states nothing
pub none_states : (line : List ℕ) → line_sort line ≡ None → states line ≡ None
unfolding states map_or
none_states line e = rw e

-- a line of a sort that is allowed begins as it must
pub allows_begins : (s : Sort) (line : List ℕ) → line_sort line ≡ Some s → allows_untagged line ≡ true → begins (expressions s) (tail (columns line)) ≡ true
unfolding allows_untagged map_or
allows_begins s line e h = rw e at h

-- and states the record of its columns
pub sort_states : (s : Sort) (line : List ℕ) → line_sort line ≡ Some s → allows_untagged line ≡ true → states line ≡ Some (record_of s (columns line))
unfolding states map_or
sort_states s line e h = rw (e, h)

-- its segment names are those of the record
states_comma : (r : Record) (line : List ℕ) → states line ≡ Some r → no_comma line ≡ no_comma_in r
unfolding no_comma map_or
states_comma r line e = rw e

-- What is allowed is allowed whatever its tags are.
pub allowed_untagged : (line : List ℕ) → allows line ≡ true → allows_untagged line ≡ true
unfolding allows allows_untagged
allowed_untagged line = by_sort (line_sort line)
  where
    by_sort : (o : Option Sort) → map_or o false (λ s. fits (expressions s) (tail (columns line))) ≡ true
        → map_or o false (λ s. begins (expressions s) (tail (columns line))) ≡ true
    by_sort None = unfold map_or in λ h. h
    by_sort (Some s) = unfold map_or fits in λ h. (both {a = begins (expressions s) (tail (columns line))} h).0

-- The reader accepts every line that the specification allows, no segment name holding a comma, unless a segment's name was read before.
-- It reads the record that the line states. Tags play no part in this: they are taken as they stand, allowed or not.
pub reads : (ids : List (List ℕ)) (line : Part) → allows_untagged line.bytes ≡ true → no_comma line.bytes ≡ true
    → map_read stated (parse_line ids line) ≡ expected ids (states line.bytes)
reads ids line h k = by_sort (line_sort line.bytes) refl
  where
    by_sort : (o : Option Sort) → line_sort line.bytes ≡ o → map_read stated (parse_line ids line) ≡ expected ids (states line.bytes)
    by_sort None e = absurd (true≢false (sym h ∙ none_allows line.bytes e))
    by_sort (Some s) e =
        let r = sort_states s line.bytes e h in
        rw r (line_reads s ids line e (allows_begins s line.bytes e h) (sym (states_comma (record_of s (columns line.bytes)) line.bytes r) ∙ k))

-- ---- the first broken column

-- tags are broken where they do not match
broken_tags : (k : ℕ) (cs : List (List ℕ)) → (broken_from k [] cs ≡ None) ↔ (fits [] cs ≡ true)
unfolding broken_from fits begins all
broken_tags k [] = (λ h. refl, λ h. refl)
broken_tags k (c ∷ cs) =
    by_test (is_tag c)
    (λ e. rw e (broken_tags (suc k) cs))
    (λ e. rw e (λ h. absurd (Some-ne-None k h), λ h. absurd (false≢true h)))

-- and so is any column
broken_fits : (k : ℕ) (es : List (List ℕ → Bool)) (cs : List (List ℕ)) → (broken_from k es cs ≡ None) ↔ (fits es cs ≡ true)
unfolding broken_from fits begins
broken_fits k [] cs = broken_tags k cs
broken_fits k (e ∷ es) [] = (λ h. absurd (Some-ne-None k h), λ h. absurd (false≢true h))
broken_fits k (e ∷ es) (c ∷ cs) =
    by_test (e c)
    (λ t. rw t (broken_fits (suc k) es cs))
    (λ t. rw t (λ h. absurd (Some-ne-None k h), λ h. absurd (false≢true h)))

-- No column is broken in the lines that are allowed, and in no others.
pub broken_allows : (line : List ℕ) → (first_broken line ≡ None) ↔ (allows line ≡ true)
unfolding first_broken allows
broken_allows line = by_sort (line_sort line)
  where
    by_sort : (o : Option Sort) → (map_or o (Some 1) (λ s. broken_from 2 (expressions s) (tail (columns line))) ≡ None) ↔ (map_or o false (λ s. fits (expressions s) (tail (columns line))) ≡ true)
    by_sort None = unfold map_or in (λ h. absurd (Some-ne-None 1 h), λ h. absurd (false≢true h))
    by_sort (Some s) = unfold map_or in broken_fits 2 (expressions s) (tail (columns line))
