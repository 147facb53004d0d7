-- What a whole text is read as: line by line, the entries it holds, with new IDs and clean bytes. Assumes nothing.
use Prim.Native.Nat.{ℕ, suc}
use native.Mathlib.Omega.{arith}
use mathlib.Core.Bool.{true}
use mathlib.Core.List.{List, [], ◌∷◌, ◌++◌, map, append-nil, append_assoc}
use Rattle.std.specs.Prelude.{None}
use mathlib.Core.Path.{◌≡◌, refl, ap}
use Rattle.gfa_spec.specs.Bytes.{any, all, join, Part, one, nil, distinct, Each}
use Rattle.gfa_spec.specs.Reading.{fields, field, Entry, header, comment, blank, other, segment, link, path, Read, refused, accepted, lines, parse_line, Parsed, refused_at, parsed, id_of, after, onward, parse_lines, parse, choose}
use Rattle.gfa_spec.specs.Records.{segments, collect}
use Rattle.gfa_spec.specs.Calls.{bad_byte}
use Rattle.gfa_spec.proofs.Tests.{apart, distinct_append}
use Rattle.gfa_spec.proofs.Each.{each_implies}
use Rattle.gfa_spec.proofs.Entries.{Holds, is_header, is_comment, is_blank, is_other_line, is_segment, is_link, is_p, is_w, line_holds, nth_field, path_fields_bytes, path_names_bytes}
use Rattle.gfa_spec.proofs.Clean.{is_line_byte, is_field_byte, LineBytes, FieldBytes, lines_clean, fields_clean}

-- ---- line by line

-- the lines are read as the entries, behind segments with the given IDs
abbrev pub Reads : List (List ℕ) → List Part → List Entry → Type 0
Reads ids [] [] = Unit {0}
Reads ids [] (e ∷ es) = ⊥
Reads ids (p ∷ ps) [] = ⊥
Reads ids (p ∷ ps) (e ∷ es) = (parse_line ids p ≡ accepted e) × Reads (ids ++ id_of e) ps es

-- what is parsed behind an entry
after_parsed : (e : Entry) (r : Parsed) (es : List Entry) → after e r ≡ parsed es → (more : List Entry) × (r ≡ parsed more) × (e ∷ more ≡ es)
unfolding after
after_parsed e (refused_at n line) es h = let z : ◌≡◌ {A = ℕ} 0 1 = cc in absurd (omega arith)
after_parsed e (parsed more) es h = (more, refl, cc)

-- a first line that is parsed, and the lines behind it
onward_parsed : (number : ℕ) (r : Read Entry) (rest : Entry → Parsed) (es : List Entry) → onward number r rest ≡ parsed es
    → (e : Entry) × (more : List Entry) × (r ≡ accepted e) × (e ∷ more ≡ es) × (rest e ≡ parsed more)
unfolding onward
onward_parsed number (refused n) rest es h = let z : ◌≡◌ {A = ℕ} 0 1 = cc in absurd (omega arith)
onward_parsed number (accepted e) rest es h = let (more, i, j) = after_parsed e (rest e) es h in (e, more, refl, j, i)

-- lines that are parsed are read
pub parse_reads : (number : ℕ) (ids : List (List ℕ)) (ps : List Part) (es : List Entry) → parse_lines number ids ps ≡ parsed es → Reads ids ps es
unfolding parse_lines
parse_reads number ids [] es h = let e : [] ≡ es = cc in rw (← e) tt
parse_reads number ids (p ∷ ps) es h =
    let n = onward_parsed number (parse_line ids p) (λ e. parse_lines (suc number) (ids ++ id_of e) ps) es h in
    rw (← n.3) (n.2, parse_reads (suc number) (ids ++ id_of n.0) ps n.1 n.4)

-- ---- where an entry comes from

-- A line of bytes that a line may hold, which is read as the entry.
pub record From (e : Entry) : Type 0 where
  pub ids : List (List ℕ)
  pub line : Part
  pub reads : parse_line ids line ≡ accepted e
  pub clean : LineBytes line.bytes

-- each entry comes from its line
reads_from : (ids : List (List ℕ)) (ps : List Part) (es : List Entry) → Each (λ p. LineBytes p.bytes) ps → Reads ids ps es → Each From es
reads_from ids [] [] h r = tt
reads_from ids [] (e ∷ es) h r = absurd r
reads_from ids (p ∷ ps) [] h r = absurd r
reads_from ids (p ∷ ps) (e ∷ es) h r = (record { ids = ids; line = p; reads = r.0; clean = h.0 }, reads_from (ids ++ id_of e) ps es h.1 r.1)

-- the entries of a text with no bad byte come from clean lines
pub parse_from : (text : List ℕ) (es : List Entry) → bad_byte 0 text ≡ None → parse text ≡ parsed es → Each From es
unfolding parse
parse_from text es good h = reads_from [] (lines text) es (lines_clean text good) (parse_reads 1 [] (lines text) es h)

-- ---- the bytes of an entry

-- the bytes of lines, fields, IDs, names and sequences
abbrev pub CleanEntry : Entry → Type 0
CleanEntry (header l) = LineBytes l
CleanEntry (comment l) = LineBytes l
CleanEntry (blank l) = LineBytes l
CleanEntry (other l) = LineBytes l
CleanEntry (segment s) = FieldBytes s.id × FieldBytes s.sequence × LineBytes s.line
CleanEntry (link l) = FieldBytes l.from × FieldBytes l.to × LineBytes l.line
CleanEntry (path p) = Each FieldBytes p.fields × Each (λ s. FieldBytes s.name.bytes) p.steps

-- an entry has the bytes of its line and of the line's fields
holds_clean : (ids : List (List ℕ)) (p : Part) (fs : List Part) (e : Entry) → LineBytes p.bytes → Each (λ f. FieldBytes f.bytes) fs → Holds ids p fs e
    → CleanEntry e
unfolding field is_field_byte is_line_byte
holds_clean ids p fs e h k is_header = h
holds_clean ids p fs e h k is_comment = h
holds_clean ids p fs e h k is_blank = h
holds_clean ids p fs e h k is_other_line = h
holds_clean ids p fs e h k (is_segment long fresh) = (nth_field (λ b. is_field_byte b ≡ true) 1 fs k, nth_field (λ b. is_field_byte b ≡ true) 2 fs k, h)
holds_clean ids p fs e h k (is_link a b long u i v j) = (nth_field (λ b. is_field_byte b ≡ true) 1 fs k, nth_field (λ b. is_field_byte b ≡ true) 3 fs k, h)
holds_clean ids p fs e h k (is_p steps letter long a) =
    let q = is_p steps letter long a in
    (path_fields_bytes (λ b. is_field_byte b ≡ true) ids p fs _ refl k q, path_names_bytes (λ b. is_field_byte b ≡ true) ids p fs _ k q)
holds_clean ids p fs e h k (is_w steps letter long a) =
    let q = is_w steps letter long a in
    (path_fields_bytes (λ b. is_field_byte b ≡ true) ids p fs _ refl k q, path_names_bytes (λ b. is_field_byte b ≡ true) ids p fs _ k q)

-- so an entry from a clean line is clean
pub from_clean : (e : Entry) → From e → CleanEntry e
from_clean e f = holds_clean f.ids f.line (fields f.line) e f.clean (fields_clean f.line f.clean) (line_holds f.ids f.line e f.reads)

-- every entry of a text with no bad byte is clean
pub parse_clean : (text : List ℕ) (es : List Entry) → bad_byte 0 text ≡ None → parse text ≡ parsed es → Each CleanEntry es
parse_clean text es good h = each_implies from_clean es (parse_from text es good h)

-- ---- the IDs of a text

-- an ID that is accepted is new
holds_distinct : (ids : List (List ℕ)) (p : Part) (fs : List Part) (e : Entry) → distinct ids ≡ true → Holds ids p fs e → distinct (ids ++ id_of e) ≡ true
unfolding id_of choose one nil
holds_distinct ids p fs e h is_header = rw append-nil h
holds_distinct ids p fs e h is_comment = rw append-nil h
holds_distinct ids p fs e h is_blank = rw append-nil h
holds_distinct ids p fs e h is_other_line = rw append-nil h
holds_distinct ids p fs e h (is_segment long fresh) =
    distinct_append ids (field 1 fs ∷ []) h (unfold distinct any in refl) (unfold apart all in rw fresh)
holds_distinct ids p fs e h (is_link a b long u i v j) = rw append-nil h
holds_distinct ids p fs e h (is_p steps letter long a) = rw append-nil h
holds_distinct ids p fs e h (is_w steps letter long a) = rw append-nil h

-- so the IDs of lines that are read are new
reads_distinct : (ids : List (List ℕ)) (ps : List Part) (es : List Entry) → distinct ids ≡ true → Reads ids ps es → distinct (ids ++ join (map id_of es)) ≡ true
unfolding join
reads_distinct ids [] [] h r = rw append-nil h
reads_distinct ids [] (e ∷ es) h r = absurd r
reads_distinct ids (p ∷ ps) [] h r = absurd r
reads_distinct ids (p ∷ ps) (e ∷ es) h r =
    rw (← append_assoc ids (id_of e) (join (map id_of es)))
    (reads_distinct (ids ++ id_of e) ps es (holds_distinct ids p (fields p) e h (line_holds ids p e r.0)) r.1)

-- the IDs of the entries are those of the segments
pub ids_segments : (es : List Entry) → join (map id_of es) ≡ map (λ s. s.id) (segments es)
unfolding join id_of segments collect choose one nil
ids_segments [] = refl
ids_segments (header l ∷ es) = ids_segments es
ids_segments (comment l ∷ es) = ids_segments es
ids_segments (blank l ∷ es) = ids_segments es
ids_segments (other l ∷ es) = ids_segments es
ids_segments (segment s ∷ es) = ap (λ ids. s.id ∷ ids) (ids_segments es)
ids_segments (link l ∷ es) = ids_segments es
ids_segments (path p ∷ es) = ids_segments es

-- no two segments of a text have one ID
pub parse_distinct : (text : List ℕ) (es : List Entry) → parse text ≡ parsed es → distinct (map (λ s. s.id) (segments es)) ≡ true
unfolding parse
parse_distinct text es h =
    rw (← (ids_segments es)) (reads_distinct [] (lines text) es (unfold distinct in refl) (parse_reads 1 [] (lines text) es h))
