-- The records of a text, each sort in text order. Document 01, "Reading": segment numbers, link numbers and path numbers count
-- separately from 0, so a record's number is its place in the list of its sort.
use Rattle.std.specs.Prelude.{ℕ, suc, Bool, false, cond, not, List, [], ◌∷◌, ◌++◌}
use Rattle.std.specs.Prelude.{Option, unwrap_or, option_map, None, Some}
use Rattle.gfa_spec.specs.Options.{map_or}
use Rattle.gfa_spec.specs.Bytes.{same, star, one, nil, count}
use Rattle.gfa_spec.specs.Reading.{Step, Segment, Link, Path, Entry, choose}

-- ---- the sorts

-- what the entries give, in text order
unfoldable pub collect : {A : Type 0} → (Entry → List A) → List Entry → List A
collect f [] = []
collect f (e ∷ es) = f e ++ collect f es

-- headers, comments and blanks, as they came ("Folding", rule 7)
unfoldable pub leading : List Entry → List (List ℕ)
leading es = collect (choose one nil nil nil nil) es

-- the other lines, as they came
unfoldable pub others : List Entry → List (List ℕ)
others es = collect (choose nil one nil nil nil) es

-- the segments
unfoldable pub segments : List Entry → List Segment
segments es = collect (choose nil nil one nil nil) es

-- the links
unfoldable pub links : List Entry → List Link
links es = collect (choose nil nil nil one nil) es

-- the paths, of P and W lines
unfoldable pub paths : List Entry → List Path
paths es = collect (choose nil nil nil nil one) es

-- ---- what records say of names

-- the sequence of the segment so named; no two segments of a text have one name (6)
unfoldable pub sequence_of : List Segment → List ℕ → Option (List ℕ)
sequence_of [] name = None
sequence_of (s ∷ ss) name = cond (same s.id name) (Some s.sequence) (sequence_of ss name)

-- the same, and no byte where no segment is so named
unfoldable pub sequence_or_empty : List Segment → List ℕ → List ℕ
sequence_or_empty ss name = unwrap_or (sequence_of ss name) []

-- a step has a sequence: a segment of its text has that name, and a sequence other than `*` ("Folding", last paragraph)
unfoldable pub has_sequence : List Segment → Step → Bool
has_sequence ss s = map_or (sequence_of ss s.name.bytes) false (λ seq. not (same seq star))

-- the number of the segment so named, none where no segment is
unfoldable pub segment_number : List Segment → List ℕ → Option ℕ
segment_number [] name = None
segment_number (s ∷ ss) name = cond (same s.id name) (Some 0) (option_map suc (segment_number ss name))

-- a link with equal ends, any orientations: a self-link
unfoldable pub is_self_link : Link → Bool
is_self_link l = same l.from l.to

-- how many there are
unfoldable pub self_links : List Entry → ℕ
self_links es = count is_self_link (links es)
