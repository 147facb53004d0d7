-- The records read of a whole text are those that the specification states, line by line. Assumes nothing.
use Prim.Native.Nat.{ℕ, suc, ◌+◌, ◌*◌, ◌≤◌}
use mathlib.Core.Bool.{true, false, cond, ◌&&◌}
use mathlib.Core.List.{List, [], ◌∷◌, ◌++◌, map}
use Rattle.std.specs.Prelude.{Option, None, Some}
use Rattle.gfa_spec.specs.Options.{map_or}
use Rattle.gfa_spec.proofs.Options.{Some-ne-None}
use mathlib.Core.Path.{◌≡◌, refl, sym, ap, ◌∙◌}
use lib.ListN.{length}
use borrow.Author.Tests.{not-true}
use Rattle.gfa_spec.specs.Bytes.{bytes, same, is_empty, any, all, Part, one, nil}
use Rattle.gfa_spec.specs.Reading.{lines, fields, field, Kind, Entry, header, comment, blank, other, segment, link, path, refused, accepted, parse_fields, starts_comment, parse_line, parsed, id_of, after, parse_lines, parse, map_read, onward, choose}
use Rattle.gfa_spec.specs.Calls.{bad_byte, entries, input}
use Rattle.gfa_spec.specs.Gfa1.{Sort, S, L, P, W, sort_of, line_sort, allows_untagged, Visit, states, no_comma, conforms}
use Rattle.gfa_spec.specs.Gfa1Read.{visit_of, path_record, stated, name_in, known, expected, Agree, fresh}
use Rattle.gfa_spec.proofs.Tests.{by_test, both}
use Rattle.gfa_spec.proofs.Gfa1.{field_column, fields_columns, none_states, reads}
use Rattle.gfa_spec.proofs.Texts.{Reads, parse_reads}
use Rattle.gfa_spec.proofs.Admission.{entries_input}
use Rattle.gfa_spec.proofs.Answers.{map_read_accepted}

-- a letter of no sort is none of the four
no_sort : (f : List ℕ) → sort_of f ≡ None → (same f (bytes "S") ≡ false) × (same f (bytes "L") ≡ false) × (same f (bytes "P") ≡ false) × (same f (bytes "W") ≡ false)
unfolding sort_of
no_sort f h =
    by_test (same f (bytes "S")) (λ e. absurd (Some-ne-None S (rw e at h))) λ e.
    by_test (same f (bytes "L")) (λ d. absurd (Some-ne-None L (rw (e, d) at h))) λ d.
    by_test (same f (bytes "P")) (λ c. absurd (Some-ne-None P (rw (e, d, c) at h))) λ c.
    by_test (same f (bytes "W")) (λ b. absurd (Some-ne-None W (rw (e, d, c, b) at h))) λ b.
    (e, d, c, b)

-- fields of no sort are accepted, and no record is read of them
none_fields : (ids : List (List ℕ)) (line : Part) (fs : List Part) → sort_of (field 0 fs) ≡ None → map_read stated (parse_fields ids line fs) ≡ accepted None
unfolding parse_fields map_read stated bytes
none_fields ids line fs h =
    let k = no_sort (field 0 fs) h in
    by_test (same (field 0 fs) (bytes "H")) (λ e. rw e) (λ e. rw (e, k.0, k.1, k.2, k.3))

-- a line of no sort is accepted, and no record is read of it
none_reads : (ids : List (List ℕ)) (line : Part) → line_sort line.bytes ≡ None → map_read stated (parse_line ids line) ≡ accepted None
unfolding parse_line map_read stated line_sort
none_reads ids line h =
    by_test (is_empty line.bytes) (λ e. rw e) λ e.
    by_test (starts_comment line.bytes) (λ d. rw (e, d)) λ d.
    rw (e, d) (none_fields ids line (fields line) (rw (field_column 0 (fields line), fields_columns line) h))

-- a line of a sort conforms where it is allowed, no segment name holding a comma
sort_conforms : (s : Sort) (line : List ℕ) → line_sort line ≡ Some s → conforms line ≡ (allows_untagged line && no_comma line)
unfolding conforms map_or
sort_conforms s line e = rw e

-- The reader reads of every line that conforms what the specification states.
pub conforms_reads : (ids : List (List ℕ)) (line : Part) → conforms line.bytes ≡ true → map_read stated (parse_line ids line) ≡ expected ids (states line.bytes)
conforms_reads ids line h = by_sort (line_sort line.bytes) refl
  where
    by_sort : (o : Option Sort) → line_sort line.bytes ≡ o → map_read stated (parse_line ids line) ≡ expected ids (states line.bytes)
    by_sort None e = unfold expected known name_in any in rw (none_states line.bytes e) (none_reads ids line e)
    by_sort (Some s) e =
        let k : (allows_untagged line.bytes ≡ true) × (no_comma line.bytes ≡ true) = both (sym (sort_conforms s line.bytes e) ∙ h) in
        reads ids line k.0 k.1

-- ---- texts

-- what a line that conforms was read as is what it states
entry_states : (ids : List (List ℕ)) (line : Part) (e : Entry) → parse_line ids line ≡ accepted e → conforms line.bytes ≡ true → stated e ≡ states line.bytes
unfolding map_read expected
entry_states ids line e p h =
    let r : accepted (stated e) ≡ cond (known ids (states line.bytes)) (refused 6) (accepted (states line.bytes)) = rw p at (conforms_reads ids line h) in
    by_test (known ids (states line.bytes))
    (λ t. let k : accepted (stated e) ≡ refused 6 = rw t at r in cc)
    (λ t. let k : accepted (stated e) ≡ accepted (states line.bytes) = rw t at r in cc)

-- lines that were read agree with their entries
lines_agree : (ids : List (List ℕ)) (ls : List Part) (es : List Entry) → Reads ids ls es → Agree ls es
lines_agree ids [] [] r = tt
lines_agree ids [] (e ∷ es) r = absurd r
lines_agree ids (l ∷ ls) [] r = absurd r
lines_agree ids (l ∷ ls) (e ∷ es) r = (entry_states ids l e r.0, lines_agree (ids ++ id_of e) ls es r.1)

-- A text that is read has an entry for each line, and each line that conforms is read as what it states.
pub text_agrees : (text : List ℕ) (es : List Entry) → parse text ≡ parsed es → Agree (lines text) es
unfolding parse
text_agrees text es h = lines_agree [] (lines text) es (parse_reads 1 [] (lines text) es h)

-- ---- acceptance

-- a path names no segment
path_name_none : (k : Kind) (cs : List (List ℕ)) (visits : List Visit) → name_in (Some (path_record k cs visits)) ≡ []
unfolding name_in path_record
path_name_none Kind.P cs visits = refl
path_name_none Kind.W cs visits = refl

-- the reader keeps the IDs that it reads
entry_name : (e : Entry) → id_of e ≡ name_in (stated e)
unfolding id_of choose one nil name_in stated
entry_name (header l) = refl
entry_name (comment l) = refl
entry_name (blank l) = refl
entry_name (other l) = refl
entry_name (segment s) = refl
entry_name (link l) = refl
entry_name (path p) = sym (path_name_none p.kind p.fields (map visit_of p.steps))

-- A line that conforms is accepted, unless its name is known, and its entry states what the line states.
pub conforms_entry : (ids : List (List ℕ)) (l : Part) → conforms l.bytes ≡ true → known ids (states l.bytes) ≡ false
    → (e : Entry) × (parse_line ids l ≡ accepted e) × (stated e ≡ states l.bytes)
unfolding expected
conforms_entry ids l h k = map_read_accepted stated (parse_line ids l) (states l.bytes) (rw k at (conforms_reads ids l h))

-- a line and then others are read
line_parsed : (number : ℕ) (ids : List (List ℕ)) (l : Part) (ls : List Part) (e : Entry) (es : List Entry) → parse_line ids l ≡ accepted e
    → parse_lines (suc number) (ids ++ id_of e) ls ≡ parsed es → parse_lines number ids (l ∷ ls) ≡ parsed (e ∷ es)
unfolding parse_lines onward after
line_parsed number ids l ls e es h k = rw (h, k)

-- lines that conform, with no name twice, are read
lines_accepted : (number : ℕ) (ids : List (List ℕ)) (ls : List Part) → all (λ l. conforms l.bytes) ls ≡ true → fresh ids ls ≡ true
    → (es : List Entry) × (parse_lines number ids ls ≡ parsed es)
unfolding parse_lines all fresh
lines_accepted number ids [] h k = ([], refl)
lines_accepted number ids (l ∷ ls) h k =
    let hs = both h in
    let ks = both k in
    let e = conforms_entry ids l hs.0 (not-true (known ids (states l.bytes)) ks.0) in
    let name : id_of e.0 ≡ name_in (states l.bytes) = entry_name e.0 ∙ ap name_in e.2 in
    let rest = lines_accepted (suc number) (ids ++ id_of e.0) ls hs.1 (rw name ks.1) in
    (e.0 ∷ rest.0, line_parsed number ids l ls e.0 rest.0 e.1 rest.1)

-- A text whose every line conforms, no segment's name coming twice, is read.
pub text_accepted : (text : List ℕ) → all (λ l. conforms l.bytes) (lines text) ≡ true → fresh [] (lines text) ≡ true → (es : List Entry) × (parse text ≡ parsed es)
unfolding parse
text_accepted text h k = lines_accepted 1 [] (lines text) h k

-- Such a text, within the limits of a call, is admitted, and its entries state what its lines state.
pub text_admitted : (text : List ℕ) (work : ℕ) → length text ≤ 1048576 → bad_byte 0 text ≡ None → 4 * length text + 64 ≤ work
    → all (λ l. conforms l.bytes) (lines text) ≡ true → fresh [] (lines text) ≡ true
    → (es : List Entry) × (input text work ≡ entries es) × Agree (lines text) es
text_admitted text work short clean enough h k =
    let (es, reads) = text_accepted text h k in
    (es, entries_input text work es (record { short = short; clean = clean; enough = enough; reads = reads }), text_agrees text es reads)
