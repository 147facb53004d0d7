-- The path table, and what P and W lines have in common: the reader reads both by one function. Document 01, "Forms that change":
-- a path record holds a first step and a count.
use Rattle.std.specs.Prelude.{ℕ, ◌+◌, ◌*◌, ◌≤◌, cond, List, [], ◌∷◌, ◌++◌, map, eqb, length, get_or}
use Rattle.tables.specs.declared.kinds.PathKind.{PathKind}
use Rattle.tables.specs.declared.kinds.PathKind.TheVariants as kind
use Rattle.gfa_spec.specs.Bytes.{Part, bytes_of, star}
use Rattle.gfa_spec.specs.Reading.{Step, Kind, P, W, Path, Entry, Read, fields, parse_psteps, parse_wsteps, parse_p, parse_w}
use Rattle.scan.specs.Places.{part_at}
use Rattle.work.specs.Rows.{rows_at}
use Rattle.tables.specs.Steps.{steps_at}

-- ---- kinds

-- the kind of a path by its word: 0 for P, else W
unfoldable pub kind_of : ℕ → Kind
kind_of k = cond (eqb k 0) P W

-- the kind that the code's enum stands for
abbrev pub kind_in : PathKind → Kind
kind_in kind.P = P
kind_in kind.W = W

-- its word in the path table
abbrev pub kind_word : PathKind → ℕ
kind_word kind.P = 0
kind_word kind.W = 1

-- the letter that a line of the kind begins with
unfoldable pub letter_of : Kind → ℕ
letter_of P = 80
letter_of W = 87

-- the field that holds the steps, counted from 0
unfoldable pub column_of : Kind → ℕ
column_of P = 2
column_of W = 6

-- the refusal of a line with too few fields
unfoldable pub short_of : Kind → ℕ
short_of P = 12
short_of W = 14

-- how the steps are read, and how the line is
unfoldable pub steps_of : Kind → Part → Read (List Step)
steps_of P f = parse_psteps f
steps_of W f = parse_wsteps f

unfoldable pub parse_path : Kind → List Part → Read Entry
parse_path P fs = parse_p fs
parse_path W fs = parse_w fs

-- the fields of a path's line: a P line without a fourth has overlaps `*`
unfoldable pub path_fields : Kind → List Part → List (List ℕ)
path_fields P fs = map bytes_of fs ++ cond (eqb (length fs) 3) (star ∷ []) []
path_fields W fs = map bytes_of fs

-- ---- the table

-- the path whose row is at the word `at`: its kind, start and length of its line, its first step and how many it has; `steps` is the step table's base
unfoldable pub path_at : List ℕ → ℕ → List ℕ → ℕ → Path
path_at text steps work at =
    record {
      kind = kind_of (get_or work at 0);
      fields = path_fields (kind_of (get_or work at 0)) (fields (part_at text (get_or work (at + 1) 0) (get_or work (at + 2) 0)));
      steps = steps_at text work (steps + 3 * get_or work (at + 3) 0) (get_or work (at + 4) 0);
    }

-- the first n paths of the table at `base`
unfoldable pub paths_at : List ℕ → ℕ → List ℕ → ℕ → ℕ → List Path
paths_at text steps work base n = rows_at (path_at text steps) 5 work base n

-- A path's row names a part of the text, and steps below `count`.
pub record PathRow (text : List ℕ) (count : ℕ) (work : List ℕ) (at : ℕ) : Type 0 where
  pub line : get_or work (at + 1) 0 + get_or work (at + 2) 0 ≤ length text
  pub steps : get_or work (at + 3) 0 + get_or work (at + 4) 0 ≤ count
