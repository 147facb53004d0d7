-- The S, L, P and W lines of the GFA specification, 1.0 and 1.1: which lines it allows, and the record that each states.
-- Document 01 names it as the public document. Written from the specification: the quoted classes below are those of its
-- expressions. One difference is known, commas inside segment names: see the end of this file.
use Rattle.std.specs.Prelude.{ℕ, suc, Bool, true, false, cond, not, ◌&&◌, ◌||◌, eqb, leb, length, take, drop}
use Prim.Native.String.{String}
use mathlib.Core.List.{List, [], ◌∷◌, ◌++◌, map, tail, drop_last}
use Rattle.std.specs.Prelude.{Option, None, Some}
use Rattle.gfa_spec.specs.Options.{map_or}
use Rattle.gfa_spec.specs.Bytes.{bytes, same, star, is_empty, all, nth, last_byte, join_with, prepend, between}

-- ---- classes of bytes

-- is the byte in the class, as in `[A-Za-z=.]`? `a-z` is a range (45 is `-`), any other byte stands for itself
unfoldable pub in_class : List ℕ → ℕ → Bool
in_class [] b = false
in_class (x ∷ []) b = eqb b x
in_class (x ∷ (y ∷ [])) b = eqb b x || eqb b y
in_class (x ∷ (y ∷ (z ∷ more))) b =
    cond (eqb y 45) (leb x b && leb b z || in_class more b) (eqb b x || in_class (y ∷ (z ∷ more)) b)

-- a byte of each class in turn, and then any number of bytes of the class c, none where it is empty: `[d1][d2]..[c]*`
unfoldable pub matches : List String → String → List ℕ → Bool
matches [] c bs = all (in_class (bytes c)) bs
matches (d ∷ ds) c [] = false
matches (d ∷ ds) c (b ∷ bs) = in_class (bytes d) b && matches ds c bs

-- ---- the expressions of fields

-- `[!-)+-<>-~][!-~]*`
unfoldable pub is_name : List ℕ → Bool
is_name = matches ("!-)+-<>-~" ∷ []) "!-~"

-- + or -
unfoldable pub is_sign : ℕ → Bool
is_sign = in_class (bytes "+-")

-- a + or - followed by a comma (44) ends an item of a P list
unfoldable pub ends_item : ℕ → ℕ → Bool
ends_item b c = is_sign b && eqb c 44

-- is there such a place in the string?
unfoldable pub holds_end : List ℕ → Bool
holds_end [] = false
holds_end (b ∷ []) = false
holds_end (b ∷ (c ∷ bs)) = ends_item b c || holds_end (c ∷ bs)

-- a name, with no + or - followed by a comma in it
unfoldable pub is_segment_name : List ℕ → Bool
is_segment_name f = is_name f && not (holds_end f)

-- `\*|[A-Za-z=.]+`
unfoldable pub is_sequence : List ℕ → Bool
is_sequence f = same f star || matches ("A-Za-z=." ∷ []) "A-Za-z=." f

-- `+|-`
unfoldable pub is_orientation : List ℕ → Bool
is_orientation f = same f (bytes "+") || same f (bytes "-")

-- `[0-9]+`
unfoldable pub is_index : List ℕ → Bool
is_index = matches ("0-9" ∷ []) "0-9"

-- `\*|[0-9]+`
unfoldable pub is_position : List ℕ → Bool
is_position f = same f star || is_index f

-- `([0-9]+[MIDNSHPX=])+`; `counted`: a digit was just read
unfoldable pub is_cigar : Bool → List ℕ → Bool
is_cigar counted [] = false
is_cigar counted (b ∷ []) = counted && in_class (bytes "MIDNSHPX=") b
is_cigar counted (b ∷ (c ∷ bs)) =
    cond (in_class (bytes "0-9") b) (is_cigar true (c ∷ bs)) (counted && in_class (bytes "MIDNSHPX=") b && is_cigar false (c ∷ bs))

-- `\*|([0-9]+[MIDNSHPX=])+`
unfoldable pub is_overlap : List ℕ → Bool
is_overlap f = same f star || is_cigar false f

-- ---- tags ("Optional fields": TAG:TYPE:VALUE, and the table of types with the expression of each value)

-- A: `[!-~]`
unfoldable pub is_character : List ℕ → Bool
is_character = matches ("!-~" ∷ []) ""

-- what follows a + or - at the front, or the whole string: what is left of `[-+]?`
unfoldable pub after_sign : List ℕ → List ℕ
after_sign [] = []
after_sign (b ∷ bs) = cond (is_sign b) bs (b ∷ bs)

-- i: `[-+]?[0-9]+`
unfoldable pub is_integer : List ℕ → Bool
is_integer v = is_index (after_sign v)

-- `[0-9]*\.?[0-9]+`, of the strings between its points
unfoldable pub are_digits : List (List ℕ) → Bool
are_digits [] = false
are_digits (a ∷ []) = is_index a
are_digits (a ∷ (b ∷ [])) = matches [] "0-9" a && is_index b
are_digits (a ∷ (b ∷ (c ∷ cs))) = false

-- `[0-9]*\.?[0-9]+(e[-+]?[0-9]+)?`, of the strings between the bytes e; a point is 46
unfoldable pub are_scaled : List (List ℕ) → Bool
are_scaled [] = false
are_scaled (a ∷ []) = are_digits (between 46 a)
are_scaled (a ∷ (b ∷ [])) = are_digits (between 46 a) && is_integer b
are_scaled (a ∷ (b ∷ (c ∷ cs))) = false

-- f: `[-+]?[0-9]*\.?[0-9]+([eE][-+]?[0-9]+)?`; e is 101, E is 69
unfoldable pub is_float : List ℕ → Bool
is_float v = are_scaled (between 101 (after_sign v)) || are_scaled (between 69 (after_sign v))

-- Z and J: `[ !-~]+`
unfoldable pub is_printed : List ℕ → Bool
is_printed = matches (" !-~" ∷ []) " !-~"

-- H: `[0-9A-F]+`
unfoldable pub is_hex : List ℕ → Bool
is_hex = matches ("0-9A-F" ∷ []) "0-9A-F"

-- `[cCsSiIf](,[-+]?[0-9]*\.?[0-9]+([eE][-+]?[0-9]+)?)+`, of the strings between its commas
unfoldable pub are_numbers : List (List ℕ) → Bool
are_numbers [] = false
are_numbers (kind ∷ numbers) = matches ("cCsSiIf" ∷ []) "" kind && not (is_empty numbers) && all is_float numbers

-- B: the same, of the value
unfoldable pub is_array : List ℕ → Bool
is_array v = are_numbers (between 44 v)

-- `[A-Za-z][A-Za-z0-9]:[types]:`, five bytes, and then a value that passes the test
unfoldable pub is_typed : String → (List ℕ → Bool) → List ℕ → Bool
is_typed types value f = matches ("A-Za-z" ∷ "A-Za-z0-9" ∷ ":" ∷ types ∷ ":" ∷ []) "" (take 5 f) && value (drop 5 f)

-- a tag, its value by its type. That a TAG comes only once in a line is not asked.
unfoldable pub is_tag : List ℕ → Bool
is_tag f =
    is_typed "A" is_character f || is_typed "i" is_integer f || is_typed "f" is_float f || is_typed "ZJ" is_printed f || is_typed "H" is_hex f
    || is_typed "B" is_array f

-- ---- lists in a field

-- `*` or a CIGAR, and more of them after commas
unfoldable pub are_overlaps : List ℕ → Bool
are_overlaps f = all is_overlap (between 44 f)

-- the items of a P list; a comma after another byte than + or - belongs to a name
unfoldable pub items : List ℕ → List (List ℕ)
items [] = [] ∷ []
items (b ∷ []) = (b ∷ []) ∷ []
items (b ∷ (c ∷ bs)) = cond (ends_item b c) ((b ∷ []) ∷ items bs) (prepend b (items (c ∷ bs)))

-- a name, and after it + or -
unfoldable pub is_item : List ℕ → Bool
is_item i = is_sign (last_byte i) && is_name (drop_last i)

-- one item or more, with commas between
unfoldable pub are_items : List ℕ → Bool
are_items f = all is_item (items f)

-- does the string begin with > or <?
unfoldable pub starts_step : List ℕ → Bool
starts_step [] = false
starts_step (b ∷ bs) = in_class (bytes "><") b

-- the steps of a walk: one begins at each > and <
unfoldable pub walk_steps : List ℕ → List (List ℕ)
walk_steps [] = []
walk_steps (b ∷ bs) = cond (starts_step bs) ((b ∷ []) ∷ walk_steps bs) (prepend b (walk_steps bs))

-- `[><][!-;=?-~]+`
unfoldable pub is_walk_step : List ℕ → Bool
is_walk_step = matches ("><" ∷ "!-;=?-~" ∷ []) "!-;=?-~"

-- `([><][!-;=?-~]+)+`
unfoldable pub is_walk : List ℕ → Bool
is_walk f = not (is_empty f) && all is_walk_step (walk_steps f)

-- ---- lines

-- the columns of a line, between tabs (9), the first being its letter
unfoldable pub columns : List ℕ → List (List ℕ)
columns line = between 9 line

-- column k, counted from 1 as in the specification
unfoldable pub column : ℕ → List (List ℕ) → List ℕ
column k cs = nth k ([] ∷ cs) []

-- The sorts of lines that state a record.
pub data Sort : Type 0 where
  S L P W : Sort

-- the sort that a letter names
unfoldable pub sort_of : List ℕ → Option Sort
sort_of letter =
    cond (same letter (bytes "S")) (Some S)
    (cond (same letter (bytes "L")) (Some L)
    (cond (same letter (bytes "P")) (Some P)
    (cond (same letter (bytes "W")) (Some W)
    None)))

-- the sort of a line
unfoldable pub line_sort : List ℕ → Option Sort
line_sort line = sort_of (column 1 (columns line))

-- the expressions of the required columns from column 2 on; W lines came with 1.1
--   S: Name, Sequence. L: From, FromOrient, To, ToOrient, Overlap. P: PathName, SegmentNames, Overlaps.
--   W: SampleId, HapIndex, SeqId, SeqStart, SeqEnd, Walk.
unfoldable pub expressions : Sort → List (List ℕ → Bool)
expressions S = is_segment_name ∷ is_sequence ∷ []
expressions L = is_segment_name ∷ is_orientation ∷ is_segment_name ∷ is_orientation ∷ is_overlap ∷ []
expressions P = is_name ∷ are_items ∷ are_overlaps ∷ []
expressions W = is_name ∷ is_index ∷ is_name ∷ is_position ∷ is_position ∷ is_walk ∷ []

-- each required column matches its expression, whatever stands after those: the tags are not judged
unfoldable pub begins : List (List ℕ → Bool) → List (List ℕ) → Bool
begins [] cs = true
begins (e ∷ es) [] = false
begins (e ∷ es) (c ∷ cs) = e c && begins es cs

-- each column matches its expression, and each after those is a tag
unfoldable pub fits : List (List ℕ → Bool) → List (List ℕ) → Bool
fits es cs = begins es cs && all is_tag (drop (length es) cs)

-- is the line an S, L, P or W line of GFA 1.1, whatever its tags are?
unfoldable pub allows_untagged : List ℕ → Bool
allows_untagged line = map_or (line_sort line) false (λ s. begins (expressions s) (tail (columns line)))

-- is the line an S, L, P or W line of GFA 1.1?
unfoldable pub allows : List ℕ → Bool
allows line = map_or (line_sort line) false (λ s. fits (expressions s) (tail (columns line)))

-- and of GFA 1.0, which has no W lines?
unfoldable pub allows10 : List ℕ → Bool
allows10 line = allows line && not (same (column 1 (columns line)) (bytes "W"))

-- the first column that is missing or does not match; k is the number of the first one given
unfoldable pub broken_from : ℕ → List (List ℕ → Bool) → List (List ℕ) → Option ℕ
broken_from k [] [] = None
broken_from k [] (c ∷ cs) = cond (is_tag c) (broken_from (suc k) [] cs) (Some k)
broken_from k (e ∷ es) [] = Some k
broken_from k (e ∷ es) (c ∷ cs) = cond (e c) (broken_from (suc k) es cs) (Some k)

-- the first column of a line that is missing or breaks its expression; 1 where the letter is none of S, L, P, W
unfoldable pub first_broken : List ℕ → Option ℕ
first_broken line = map_or (line_sort line) (Some 1) (λ s. broken_from 2 (expressions s) (tail (columns line)))

-- ---- records

-- One visit of a path or a walk: the segment's name, and + or -.
pub record Visit : Type 0 where
  pub name : List ℕ
  pub orientation : ℕ

-- What a line states: all its columns, tags as they stand.
pub data Record : Type 0 where
  segment : (name sequence : List ℕ) (tags : List (List ℕ)) → Record
  link : (from : List ℕ) (from_orientation : ℕ) (to : List ℕ) (to_orientation : ℕ) (overlap : List ℕ) (tags : List (List ℕ)) → Record
  path : (name : List ℕ) (visits : List Visit) (overlaps : List ℕ) (tags : List (List ℕ)) → Record
  walk : (sample haplotype sequence start end steps : List ℕ) (visits : List Visit) (tags : List (List ℕ)) → Record

-- the visit of an item such as `a+`
unfoldable pub item_visit : List ℕ → Visit
item_visit i = record { name = drop_last i; orientation = last_byte i }

-- the visit of a step such as `>a`: > is + (43), < is - (45)
unfoldable pub walk_visit : List ℕ → Visit
walk_visit [] = record { name = []; orientation = 45 }
walk_visit (b ∷ name) = record { name = name; orientation = cond (eqb b 62) 43 45 }

-- the record of the columns of a line
unfoldable pub record_of : Sort → List (List ℕ) → Record
record_of S cs = segment (column 2 cs) (column 3 cs) (drop 3 cs)
record_of L cs = link (column 2 cs) (last_byte (column 3 cs)) (column 4 cs) (last_byte (column 5 cs)) (column 6 cs) (drop 6 cs)
record_of P cs = path (column 2 cs) (map item_visit (items (column 3 cs))) (column 4 cs) (drop 4 cs)
record_of W cs =
    walk (column 2 cs) (column 3 cs) (column 4 cs) (column 5 cs) (column 6 cs) (column 7 cs)
    (map walk_visit (walk_steps (column 7 cs))) (drop 7 cs)

-- the record that a line states, if its required columns match; its tags are taken as they stand
unfoldable pub states : List ℕ → Option Record
states line = map_or (line_sort line) None (λ s. cond (allows_untagged line) (Some (record_of s (columns line))) None)

-- the item of a visit, such as `a+`
unfoldable pub item_of : Visit → List ℕ
item_of v = v.name ++ (v.orientation ∷ [])

-- the columns of the line that states a record
unfoldable pub columns_of : Record → List (List ℕ)
columns_of (segment name sequence tags) = bytes "S" ∷ name ∷ sequence ∷ tags
columns_of (link from from_orientation to to_orientation overlap tags) =
    bytes "L" ∷ from ∷ (from_orientation ∷ []) ∷ to ∷ (to_orientation ∷ []) ∷ overlap ∷ tags
columns_of (path name visits overlaps tags) = bytes "P" ∷ name ∷ join_with 44 (map item_of visits) ∷ overlaps ∷ tags
columns_of (walk sample haplotype sequence start end steps visits tags) =
    bytes "W" ∷ sample ∷ haplotype ∷ sequence ∷ start ∷ end ∷ steps ∷ tags

-- ---- commas: the specification allows them inside segment names, and the Rust splits a P list at every comma

-- the name holds no comma
unfoldable pub lacks_comma : List ℕ → Bool
lacks_comma name = all (λ b. not (eqb b 44)) name

-- no segment name of the record holds a comma
unfoldable pub no_comma_in : Record → Bool
no_comma_in (segment name sequence tags) = lacks_comma name
no_comma_in (link from from_orientation to to_orientation overlap tags) = lacks_comma from && lacks_comma to
no_comma_in (path name visits overlaps tags) = all (λ v. lacks_comma v.name) visits
no_comma_in (walk sample haplotype sequence start end steps visits tags) = all (λ v. lacks_comma v.name) visits

-- no segment name of the line holds a comma
unfoldable pub no_comma : List ℕ → Bool
no_comma line = map_or (states line) true no_comma_in

-- an S, L, P or W line that is allowed, whatever its tags are, no segment name holding a comma; or a line of another sort
unfoldable pub conforms : List ℕ → Bool
conforms line = map_or (line_sort line) true (λ s. allows_untagged line && no_comma line)
