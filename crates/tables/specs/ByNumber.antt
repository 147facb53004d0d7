-- Rows by their numbers: what a row's number stands for, and what the words of a row say. No width and no place of a row is named above this file.
use Rattle.std.specs.Prelude.{Option, ℕ, ◌+◌, ◌*◌, ◌-◌, ◌≤◌, List, [], ◌∷◌, ◌≡◌, get_or}
use Rattle.tables.specs.declared.tables.Bases.{Bases}
use Rattle.tables.specs.declared.tables.Counts.{Counts}
use Rattle.tables.specs.declared.entry.Record.{Record}
use Rattle.tables.specs.declared.entry.SegmentNo.{SegmentNo}
use Rattle.scan.specs.declared.places.Place.{Place}
use Rattle.tables.specs.declared.rows.SegmentWords.{SegmentWords}
use Rattle.tables.specs.declared.rows.LinkWords.{LinkWords}
use Rattle.tables.specs.declared.rows.PathWords.{PathWords}
use Rattle.tables.specs.declared.rows.StepWords.{StepWords}
use Rattle.gfa_spec.specs.Records.{segment_number}
use Rattle.gfa_spec.specs.Reading.{Entry, Segment, Link, Path, Step, fields}
use Rattle.scan.specs.Places.{part_at, Inside, bytes_in}
use Rattle.scan.specs.Orientations.{sign_of}
use Rattle.tables.specs.Segments.{segment_at, segments_at, segment_found, FoundBelow}
use Rattle.tables.specs.Links.{link_at, links_at}
use Rattle.tables.specs.Paths.{kind_in, kind_word, path_fields, path_at, paths_at}
use Rattle.tables.specs.Steps.{step_at, steps_at}
use Rattle.tables.specs.Entries.{entry_of, entry_at, Fits}

-- ---- numbers

-- line, segment, link, path and step of a number
abbrev pub entry_no : List ℕ → List ℕ → Bases → ℕ → Entry
entry_no text work b i = entry_at text b work (b.lines + 3 * i)

abbrev pub segment_no : List ℕ → List ℕ → Bases → ℕ → Segment
segment_no text work b i = segment_at text work (b.segs + 7 * i)

abbrev pub link_no : List ℕ → List ℕ → Bases → ℕ → Link
link_no text work b i = link_at text work (b.links + 8 * i)

abbrev pub path_no : List ℕ → List ℕ → Bases → ℕ → Path
path_no text work b p = path_at text b.steps work (b.paths + 5 * p)

abbrev pub step_no : List ℕ → List ℕ → Bases → ℕ → Step
step_no text work b i = step_at text work (b.steps + 3 * i)

-- the first i segments, all segments, those from segment i on
abbrev pub segments_to : List ℕ → List ℕ → Bases → ℕ → List Segment
segments_to text work b i = segments_at text work b.segs i

abbrev pub segments_of : List ℕ → List ℕ → Bases → Counts → List Segment
segments_of text work b n = segments_to text work b n.segs

abbrev pub segments_from : List ℕ → List ℕ → Bases → Counts → ℕ → List Segment
segments_from text work b n i = segments_at text work (b.segs + 7 * i) (n.segs - i)

-- the first i links, and those from link i on
abbrev pub links_to : List ℕ → List ℕ → Bases → ℕ → List Link
links_to text work b i = links_at text work b.links i

abbrev pub links_from : List ℕ → List ℕ → Bases → Counts → ℕ → List Link
links_from text work b n i = links_at text work (b.links + 8 * i) (n.links - i)

-- the first p paths, and those from path p on
abbrev pub paths_to : List ℕ → List ℕ → Bases → ℕ → List Path
paths_to text work b p = paths_at text b.steps work b.paths p

abbrev pub paths_from : List ℕ → List ℕ → Bases → Counts → ℕ → List Path
paths_from text work b n p = paths_at text b.steps work (b.paths + 5 * p) (n.paths - p)

-- the steps from number i up to, not including, `end`
abbrev pub steps_from : List ℕ → List ℕ → Bases → ℕ → ℕ → List Step
steps_from text work b i end = steps_at text work (b.steps + 3 * i) (end - i)

-- the word behind the last row of the last table
abbrev pub tables_end : Bases → Counts → ℕ
tables_end b n = b.steps + 3 * n.steps

-- ---- parts of the text

-- the start and the length that stand from the word `at` on
abbrev pub place_at : List ℕ → ℕ → Place
place_at work at = record { start = get_or work at 0; size = get_or work (at + 1) 0 }

-- ---- rows

-- the step and the link that the words of a row say
abbrev pub step_of : List ℕ → StepWords → Step
step_of text s = record { name = part_at text s.name.start s.name.size; orientation = sign_of s.mark }

abbrev pub link_of : List ℕ → LinkWords → Link
link_of text l =
    record { from = bytes_in text l.from; from_orientation = sign_of l.leaves; to = bytes_in text l.to; to_orientation = sign_of l.enters; line = bytes_in text l.line }

-- the words of a segment's, a link's, a path's and a step's row
abbrev pub segment_words : SegmentWords → List ℕ
segment_words s = s.line.start ∷ s.line.size ∷ s.id.start ∷ s.id.size ∷ s.sequence.start ∷ s.sequence.size ∷ []

abbrev pub link_words : LinkWords → List ℕ
link_words l = l.line.start ∷ l.line.size ∷ l.from.start ∷ l.from.size ∷ sign_of l.leaves ∷ l.to.start ∷ l.to.size ∷ sign_of l.enters ∷ []

abbrev pub path_words : PathWords → List ℕ
path_words p = kind_word p.kind ∷ p.line.start ∷ p.line.size ∷ p.steps.first ∷ (p.steps.end - p.steps.first) ∷ []

abbrev pub step_words : StepWords → List ℕ
step_words s = s.name.start ∷ s.name.size ∷ sign_of s.mark ∷ []

-- The record is that of line i.
pub record LineIs (text work : List ℕ) (b : Bases) (n : Counts) (i : ℕ) (r : Record) : Type 0 where
  pub entry : entry_no text work b i ≡ entry_of text work b r
  pub fits : Fits text n r

-- The words are those of segment i.
pub record SegmentIs (text work : List ℕ) (b : Bases) (i : ℕ) (r : SegmentWords) : Type 0 where
  pub segment : segment_no text work b i ≡ record { id = bytes_in text r.id; sequence = bytes_in text r.sequence; line = bytes_in text r.line }
  pub line : Inside text r.line
  pub id : Inside text r.id
  pub sequence : Inside text r.sequence

-- The words are those of link i.
pub record LinkIs (text work : List ℕ) (b : Bases) (i : ℕ) (r : LinkWords) : Type 0 where
  pub link : link_no text work b i ≡ link_of text r
  pub line : Inside text r.line
  pub from : Inside text r.from
  pub to : Inside text r.to

-- The words are those of path p; its steps are rows of the step table.
pub record PathIs (text work : List ℕ) (b : Bases) (n : Counts) (p : ℕ) (r : PathWords) : Type 0 where
  pub path : path_no text work b p
      ≡ record {
        kind = kind_in r.kind;
        fields = path_fields (kind_in r.kind) (fields (part_at text r.line.start r.line.size));
        steps = steps_from text work b r.steps.first r.steps.end;
      }
  pub line : Inside text r.line
  pub high : r.steps.end ≤ n.steps

-- The words are those of step i.
pub record StepIs (text work : List ℕ) (b : Bases) (i : ℕ) (r : StepWords) : Type 0 where
  pub step : step_no text work b i ≡ step_of text r
  pub name : Inside text r.name

-- What a search for a name finds in the first `count` segments: the number of the first so named.
pub record FoundIs (text work : List ℕ) (b : Bases) (count : ℕ) (name : Place) (r : Option SegmentNo) : Type 0 where
  pub answer : r ≡ segment_found (segment_number (segments_to text work b count) (bytes_in text name))
  pub below : FoundBelow count r

-- What it finds in all of them.
pub record NamedIs (text work : List ℕ) (b : Bases) (n : Counts) (name : Place) (r : Option SegmentNo) : Type 0 where
  pub answer : r ≡ segment_found (segment_number (segments_of text work b n) (bytes_in text name))
  pub below : FoundBelow n.segs r
