-- What a path's line is written from, piece by piece, by the numbers of the rows. Document 01, "Folding", rule 7.
use Rattle.std.specs.Prelude.{ℕ, ◌+◌, cond, List, [], ◌∷◌, ◌++◌, eqb, length}
use Rattle.gfa_spec.specs.Bytes.{Part, end_line}
use Rattle.gfa_spec.specs.Reading.{Kind, P, W, fields}
use Rattle.normalize_spec.specs.Folding.{NewStep}
use Rattle.normalize_spec.specs.Writing.{p_token, w_token, path_line}
use Rattle.scan.specs.declared.places.Place.{Place}
use Rattle.scan.specs.Places.{part_at}
use Rattle.tables.specs.declared.tables.Bases.{Bases}
use Rattle.tables.specs.declared.tables.Counts.{Counts}
use Rattle.tables.specs.ByNumber.{path_no}
use Rattle.normalize_tables.specs.declared.layout.Layout.{Layout}
use Rattle.normalize_tables.specs.declared.layout.Made.{Made}
use Rattle.normalize_tables.specs.News.{first_of, names_at}
use Rattle.normalize_tables.specs.NewByNumber.{new_step_no, new_path_no}

-- the IDs of the nodes
abbrev pub nodes : List ℕ → List ℕ → Bases → Counts → Layout → Made → List (List ℕ)
nodes text work b n g m = names_at text work b n g (first_of m.first) m.segs

-- step k of a path: in a P line behind a comma (44), but for the first
unfoldable pub token_of : Kind → ℕ → NewStep → List ℕ
token_of P k s = cond (eqb k 0) [] (44 ∷ []) ++ p_token s
token_of W k s = w_token s

-- the same of step k of those from new step `first` on
unfoldable pub token_piece : Kind → List (List ℕ) → List ℕ → Layout → ℕ → ℕ → List ℕ
token_piece kind names work g first k = token_of kind k (new_step_no names work g (first + k))

-- the fields of a line
abbrev pub fields_in : List ℕ → Place → List Part
fields_in text line = fields (part_at text line.start line.size)

-- the overlaps `*`, behind a tab, of a P line that has none
unfoldable pub overlaps_of : Kind → List Part → List ℕ
overlaps_of P fs = cond (eqb (length fs) 3) (9 ∷ 42 ∷ []) []
overlaps_of W fs = []

-- the line of path p with its new steps
unfoldable pub path_piece : List (List ℕ) → List ℕ → List ℕ → Bases → Layout → ℕ → List ℕ
path_piece names text work b g p = end_line (path_line (path_no text work b p) (new_path_no names work g p))
