-- The pieces of the rewritten text, by the numbers of the rows. Document 01, "Folding", rule 7.
use Rattle.std.specs.Prelude.{ℕ, ◌+◌, cond, List, [], ◌∷◌, ◌++◌, get_or, Option, Some, None}
use Rattle.gfa_spec.specs.Bytes.{one, nil, end_line, ended}
use Rattle.gfa_spec.specs.Reading.{Entry, choose}
use Rattle.normalize_spec.specs.Folding.{NewStep}
use Rattle.normalize_spec.specs.Writing.{segment_line, link_line}
use Rattle.tables.specs.declared.entry.Record.{Record}
use Rattle.tables.specs.declared.entry.Record.TheVariants.{Header, Comment, Blank, Other}
use Rattle.tables.specs.declared.tables.Bases.{Bases}
use Rattle.scan.specs.declared.places.Place.{Place}
use Rattle.tables.specs.ByNumber.{entry_no, segment_no, link_no}
use Rattle.normalize_tables.specs.declared.layout.Layout.{Layout}
use Rattle.normalize_tables.specs.News.{new_at}
use Rattle.normalize_tables.specs.NewByNumber.{new_step_no, ends_no}
use Rattle.rewrite.specs.declared.lines.Class.{Class}
use Rattle.rewrite.specs.declared.lines.Class.TheVariants as class

-- ---- lines as they came

-- the raw line of the class that a record holds, if it holds one
unfoldable pub raw_of : Class → Record → Option Place
raw_of class.Leading (Header l) = Some (record { start = l.start; size = l.length })
raw_of class.Leading (Comment l) = Some (record { start = l.start; size = l.length })
raw_of class.Leading (Blank l) = Some (record { start = l.start; size = l.length })
raw_of class.Other (Other l) = Some (record { start = l.start; size = l.length })
raw_of _ _ = None

-- the line of an entry that is a raw line of the class
unfoldable pub class_lines : Class → Entry → List (List ℕ)
class_lines class.Leading e = choose one nil nil nil nil e
class_lines class.Other e = choose nil one nil nil nil e

-- the same, ended, of line i
unfoldable pub raw_piece : Class → List ℕ → List ℕ → Bases → ℕ → List ℕ
raw_piece c text work b i = ended (class_lines c (entry_no text work b i))

-- the line of segment i
unfoldable pub segment_piece : List ℕ → List ℕ → Bases → ℕ → List ℕ
segment_piece text work b i = end_line (segment_no text work b i).line

-- ---- new segments, and links

-- the line of new segment j
unfoldable pub new_piece : List ℕ → List ℕ → Bases → Layout → ℕ → ℕ → List ℕ
new_piece text work b g first j = end_line (segment_line (new_at text b g first work j))

-- the line of link i, where it is not marked as removed
unfoldable pub kept_piece : List ℕ → List ℕ → Bases → Layout → ℕ → List ℕ
kept_piece text work b g i = cond (ends_no work g i).gone [] (end_line (link_no text work b i).line)

-- one end of an added link: its name, a tab (9), its orientation, a tab
unfoldable pub step_end : NewStep → List ℕ
step_end s = s.name ++ (9 ∷ s.orientation ∷ 9 ∷ [])

-- the line of a link from new step k to the step behind it
unfoldable pub pair_line : List (List ℕ) → List ℕ → Layout → ℕ → List ℕ
pair_line names work g k = end_line (link_line (record { from = new_step_no names work g k; to = new_step_no names work g (k + 1) }))

-- the line of added link i
unfoldable pub added_piece : List (List ℕ) → List ℕ → Layout → ℕ → List ℕ
added_piece names work g i = pair_line names work g (get_or work (g.added + i) 0)
