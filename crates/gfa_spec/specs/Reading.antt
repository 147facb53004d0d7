-- How a text is read: lines, fields, steps, records. Document 01, "Reading", and the refusals 5 to 17 of "Refused calls".
use Rattle.std.specs.Prelude.{ℕ, suc, Bool, false, cond, not, ◌&&◌, ◌||◌, eqb, ltb, length}
use mathlib.Core.List.{List, [], ◌∷◌, ◌++◌, map, drop_last}
use Rattle.gfa_spec.specs.Bytes.{same, star, is_empty, any, Part, bytes_of, split, nth, last_byte, one, nil}

-- ---- lines and fields

-- no line follows a final line feed
unfoldable pub drop_final : List Part → List Part
drop_final [] = []
drop_final (p ∷ []) = cond (is_empty p.bytes) [] (p ∷ [])
drop_final (p ∷ (q ∷ ps)) = p ∷ drop_final (q ∷ ps)

-- without one carriage return (13) at the end
unfoldable pub drop_return : List ℕ → List ℕ
drop_return [] = []
drop_return (b ∷ []) = cond (eqb b 13) [] (b ∷ [])
drop_return (b ∷ (c ∷ bs)) = b ∷ drop_return (c ∷ bs)

-- a part between line feeds, as a line
unfoldable pub line_of : Part → Part
line_of p = record { at = p.at; bytes = drop_return p.bytes }

-- the lines of a text, with their places: they end at LF (10), one CR before it dropped; a last line needs no LF
unfoldable pub lines : List ℕ → List Part
lines text = map line_of (drop_final (split 10 0 text))

-- the fields of a line, with their places: split at tabs (9)
unfoldable pub fields : Part → List Part
fields line = split 9 line.at line.bytes

-- stands for a field that is not there
unfoldable pub nowhere : Part
nowhere = record { at = 0; bytes = [] }

-- the bytes of field k, counted from 0
unfoldable pub field : ℕ → List Part → List ℕ
field k fs = (nth k fs nowhere).bytes

-- ---- records

-- One visit of a path: the segment's name with its place in the text, and `+` (43) or `-` (45).
pub record Step : Type 0 where
  pub name : Part
  pub orientation : ℕ

-- An S line: its ID, its sequence, and the line.
pub record Segment : Type 0 where
  pub id : List ℕ
  pub sequence : List ℕ
  pub line : List ℕ

-- An L line: its two ends with their orientations, and the line.
pub record Link : Type 0 where
  pub from : List ℕ
  pub from_orientation : ℕ
  pub to : List ℕ
  pub to_orientation : ℕ
  pub line : List ℕ

-- The two kinds of lines that hold a path.
pub data Kind : Type 0 where
  P W : Kind

-- A P or W line: its fields, with overlaps `*` for a P line without a fourth field, and its steps.
pub record Path : Type 0 where
  pub kind : Kind
  pub fields : List (List ℕ)
  pub steps : List Step

-- What a line holds: a raw line of one of four sorts, or a segment, a link or a path.
pub data Entry : Type 0 where
  header comment blank other : List ℕ → Entry
  segment : Segment → Entry
  link : Link → Entry
  path : Path → Entry

-- a value by the sort of an entry: of a header, comment or blank; of another raw line; of a segment; of a link; of a path
unfoldable pub choose : {A : Type 0} → (List ℕ → A) → (List ℕ → A) → (Segment → A) → (Link → A) → (Path → A) → Entry → A
choose first rest seg ln pa (header l) = first l
choose first rest seg ln pa (comment l) = first l
choose first rest seg ln pa (blank l) = first l
choose first rest seg ln pa (other l) = rest l
choose first rest seg ln pa (segment s) = seg s
choose first rest seg ln pa (link l) = ln l
choose first rest seg ln pa (path p) = pa p

-- A value that was read, or the number of the refusal.
pub data Read (A : Type 0) : Type 0 where
  refused : ℕ → Read A
  accepted : A → Read A

-- go on with what was read, or stay refused
unfoldable pub then : {A B : Type 0} → Read A → (A → Read B) → Read B
then (refused n) f = refused n
then (accepted a) f = f a

-- what was read, under a function
unfoldable pub map_read : {A B : Type 0} → (A → B) → Read A → Read B
map_read f (refused n) = refused n
map_read f (accepted a) = accepted (f a)

-- ---- the steps of a P line

-- + or -
unfoldable pub is_orientation : ℕ → Bool
is_orientation b = eqb b 43 || eqb b 45

-- is the item a step? its last byte is the orientation, and the name before it is not empty
unfoldable pub is_step : List ℕ → Bool
is_step item = is_orientation (last_byte item) && not (is_empty (drop_last item))

-- the step of an item
unfoldable pub step_of : Part → Step
step_of item = record { name = record { at = item.at; bytes = drop_last item.bytes }; orientation = last_byte item.bytes }

-- the items between commas, from the left: empty ones are skipped; 13: a malformed step
unfoldable pub parse_items : List Part → Read (List Step)
parse_items [] = accepted []
parse_items (item ∷ items) =
    cond (is_empty item.bytes) (parse_items items)
    (cond (is_step item.bytes) (then (parse_items items) (λ steps. accepted (step_of item ∷ steps))) (refused 13))

-- the steps of a P field: `*` means none; else items stand between commas (44), and a field with none but empty items, as the empty field, means none
unfoldable pub parse_psteps : Part → Read (List Step)
parse_psteps f = cond (same f.bytes star) (accepted []) (parse_items (split 44 f.at f.bytes))

-- ---- the steps of a W line

-- `>` (62) or `<` (60)
unfoldable pub is_mark : ℕ → Bool
is_mark b = eqb b 62 || eqb b 60

-- `>` is +, `<` is -
unfoldable pub orientation_of : ℕ → ℕ
orientation_of mark = cond (eqb mark 62) 43 45

-- A walk: the bytes before its first mark, and for each mark its step.
pub record Walk : Type 0 where
  pub before : List ℕ
  pub steps : List Step

-- the walk of a string: a step's name is what stands between its mark and the next; `at` is the place of the first byte
unfoldable pub walk : ℕ → List ℕ → Walk
walk at [] = record { before = []; steps = [] }
walk at (b ∷ rest) =
    let w = walk (suc at) rest in
    cond (is_mark b)
    (record { before = []; steps = record { name = record { at = suc at; bytes = w.before }; orientation = orientation_of b } ∷ w.steps })
    (record { before = b ∷ w.before; steps = w.steps })

-- 15: an empty step; 16: no oriented step; 17: an empty last step
unfoldable pub non_empty : List Step → Read (List Step)
non_empty [] = refused 16
non_empty (s ∷ []) = cond (is_empty s.name.bytes) (refused 17) (accepted (s ∷ []))
non_empty (s ∷ (t ∷ ts)) = cond (is_empty s.name.bytes) (refused 15) (then (non_empty (t ∷ ts)) (λ steps. accepted (s ∷ steps)))

-- the steps of a W field: `*` or empty means none; bytes before the first mark are ignored
unfoldable pub parse_wsteps : Part → Read (List Step)
parse_wsteps f = cond (same f.bytes star || is_empty f.bytes) (accepted []) (non_empty (walk f.at f.bytes).steps)

-- ---- a line

-- n, for 8 and 10: an empty orientation; n + 1, for 9 and 11: not a single + or -
unfoldable pub parse_orientation : ℕ → List ℕ → Read ℕ
parse_orientation n [] = refused n
parse_orientation n (b ∷ []) = cond (is_orientation b) (accepted b) (refused (suc n))
parse_orientation n (b ∷ (c ∷ bs)) = refused (suc n)

-- an S line, behind segments with the given IDs; 5: fewer than 3 fields; 6: the ID was already read
unfoldable pub parse_s : List (List ℕ) → Part → List Part → Read Entry
parse_s ids line fs =
    cond (ltb (length fs) 3) (refused 5)
    (cond (any (same (field 1 fs)) ids) (refused 6)
    (accepted (segment (record { id = field 1 fs; sequence = field 2 fs; line = line.bytes }))))

-- an L line; 7: fewer than 6 fields; 8 to 11: its orientations
unfoldable pub parse_l : Part → List Part → Read Entry
parse_l line fs =
    cond (ltb (length fs) 6) (refused 7)
    (then (parse_orientation 8 (field 2 fs)) (λ a.
    then (parse_orientation 10 (field 4 fs)) (λ b.
    accepted (link (record { from = field 1 fs; from_orientation = a; to = field 3 fs; to_orientation = b; line = line.bytes })))))

-- a P line; 12: fewer than 3 fields; without a fourth its overlaps are `*`
unfoldable pub parse_p : List Part → Read Entry
parse_p fs =
    cond (ltb (length fs) 3) (refused 12)
    (then (parse_psteps (nth 2 fs nowhere)) (λ steps.
    accepted (path (record { kind = P; fields = map bytes_of fs ++ cond (eqb (length fs) 3) (star ∷ []) []; steps = steps }))))

-- a W line; 14: fewer than 7 fields
unfoldable pub parse_w : List Part → Read Entry
parse_w fs =
    cond (ltb (length fs) 7) (refused 14)
    (then (parse_wsteps (nth 6 fs nowhere)) (λ steps.
    accepted (path (record { kind = W; fields = map bytes_of fs; steps = steps }))))

-- a record by its first field, which is exactly H (72), S (83), L (76), P (80) or W (87); all else is other
unfoldable pub parse_fields : List (List ℕ) → Part → List Part → Read Entry
parse_fields ids line fs =
    cond (same (field 0 fs) (72 ∷ [])) (accepted (header line.bytes))
    (cond (same (field 0 fs) (83 ∷ [])) (parse_s ids line fs)
    (cond (same (field 0 fs) (76 ∷ [])) (parse_l line fs)
    (cond (same (field 0 fs) (80 ∷ [])) (parse_p fs)
    (cond (same (field 0 fs) (87 ∷ [])) (parse_w fs)
    (accepted (other line.bytes))))))

-- does the line begin with `#` (35)?
unfoldable pub starts_comment : List ℕ → Bool
starts_comment [] = false
starts_comment (b ∷ bs) = eqb b 35

-- a line, behind segments with the given IDs: an empty line is blank; `#` first makes a comment
unfoldable pub parse_line : List (List ℕ) → Part → Read Entry
parse_line ids line =
    cond (is_empty line.bytes) (accepted (blank line.bytes))
    (cond (starts_comment line.bytes) (accepted (comment line.bytes))
    (parse_fields ids line (fields line)))

-- ---- a text

-- What a text holds, an entry for each line; or the number of the first refusal, and its line, the first being 1.
pub data Parsed : Type 0 where
  refused_at : ℕ → ℕ → Parsed
  parsed : List Entry → Parsed

-- the segment ID that an entry brings
unfoldable pub id_of : Entry → List (List ℕ)
id_of e = choose nil nil (λ s. one s.id) nil nil e

-- an entry before those that were read behind it
unfoldable pub after : Entry → Parsed → Parsed
after e (refused_at n line) = refused_at n line
after e (parsed es) = parsed (e ∷ es)

-- the line of this number is refused, or its entry stands before what `rest` reads behind it
unfoldable pub onward : ℕ → Read Entry → (Entry → Parsed) → Parsed
onward number (refused n) rest = refused_at n number
onward number (accepted e) rest = after e (rest e)

-- lines in text order, the first of this number, behind segments with the given IDs
unfoldable pub parse_lines : ℕ → List (List ℕ) → List Part → Parsed
parse_lines number ids [] = parsed []
parse_lines number ids (line ∷ more) = onward number (parse_line ids line) (λ e. parse_lines (suc number) (ids ++ id_of e) more)

-- a text
unfoldable pub parse : List ℕ → Parsed
parse text = parse_lines 1 [] (lines text)
