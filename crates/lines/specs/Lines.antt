-- What the reader does with a line. Document 01, the refusals 5 to 17.
use Rattle.std.specs.Prelude.{Result, Ok, Err}
use Rattle.refusals.specs.declared.reason.Reason.{Reason}
use Rattle.refusals.specs.Reasons.{number_of}
use Rattle.std.specs.Prelude.{ℕ, suc, ◌+◌, ◌*◌, ◌≤◌, ◌<◌, List, [], ◌∷◌, ◌≡◌, length}
use Rattle.tables.specs.declared.entry.Record.{Record}
use Rattle.tables.specs.declared.tables.Bases.{Bases}
use Rattle.tables.specs.declared.tables.Counts.{Counts}
use Rattle.gfa_spec.specs.Bytes.{part}
use Rattle.gfa_spec.specs.Reading.{refused, accepted, parse_line}
use Rattle.gfa_spec.specs.Runs.{step_count}
use Rattle.scan.specs.Places.{part_at}
use Rattle.work.specs.Rows.{EachRow, Only}
use Rattle.tables.specs.Tables.{Few, share, rows_of}
use Rattle.tables.specs.Segments.{segments_at, ids_of, SegmentRow}
use Rattle.tables.specs.Names.{NamesSlotted}
use Rattle.tables.specs.Links.{LinkRow}
use Rattle.tables.specs.Steps.{StepRow}
use Rattle.tables.specs.Paths.{PathRow}
use Rattle.tables.specs.Entries.{record_at, by_record, entry_of}
use Rattle.lines.specs.Room.{segs_in, links_in, paths_in, spare_in}

-- What the reader asks before it reads a line: the line is in the text, and each table has room for its rows.
pub record Ready (text work : List ℕ) (b : Bases) (n : Counts) (start size : ℕ) : Type 0 where
  pub inside : start + size ≤ length text
  pub short : length text ≤ 1048576
  pub few : Few n
  pub apart : b.lines + 3 * n.lines + 3 ≤ b.segs
  pub between : b.segs + 7 * n.segs + 7 ≤ b.heads
  pub heads : b.heads < b.links
  pub beyond : b.links + 8 * n.links + 8 ≤ b.paths
  pub behind : b.paths + 5 * n.paths + 5 ≤ b.steps
  pub room : b.steps + 3 * n.steps + spare_in (part start size text) ≤ length work
  pub rows : EachRow (SegmentRow text) 7 work b.segs n.segs

-- how many rows of each table a record has
abbrev pub segs_of : Record → ℕ
segs_of r = by_record (λ k. 1) (λ k. 0) (λ k. 0) (λ l. 0) r

abbrev pub links_of : Record → ℕ
links_of r = by_record (λ k. 0) (λ k. 1) (λ k. 0) (λ l. 0) r

abbrev pub paths_of : Record → ℕ
paths_of r = by_record (λ k. 0) (λ k. 0) (λ k. 1) (λ l. 0) r

-- a record that is new behind the counts n: its number is the next, and its row may be relied on; a raw line is a part of the text
abbrev pub NewRow : List ℕ → List ℕ → Bases → Counts → Counts → Record → Type 0
NewRow text work b n m r =
    by_record
    (λ k. (k ≡ n.segs) × SegmentRow text work (b.segs + 7 * k))
    (λ k. (k ≡ n.links) × LinkRow text work (b.links + 8 * k))
    (λ k. (k ≡ n.paths) × PathRow text m.steps work (b.paths + 5 * k))
    (λ l. l.start + l.length ≤ length text)
    r

-- The rows from the counts n up to the counts m are no more than the line allows.
pub record Spent (line : List ℕ) (n m : Counts) : Type 0 where
  pub segs : m.segs ≤ n.segs + segs_in line
  pub links : m.links ≤ n.links + links_in line
  pub paths : m.paths ≤ n.paths + paths_in line
  pub spare : share m ≤ share n + spare_in line

-- The line is accepted, and is what the record r says; the tables have m rows with it; only rows behind the counts n changed.
pub record Entered (text work work' : List ℕ) (b : Bases) (n : Counts) (start size : ℕ) (r : Record) (m : Counts) : Type 0 where
  pub read : parse_line (ids_of (segments_at text work b.segs n.segs)) (part_at text start size) ≡ accepted (entry_of text work' b r)
  pub lines : m.lines ≡ suc n.lines
  pub segs : m.segs ≡ n.segs + segs_of r
  pub links : m.links ≡ n.links + links_of r
  pub paths : m.paths ≡ n.paths + paths_of r
  pub steps : m.steps ≡ n.steps + step_count (entry_of text work' b r ∷ [])
  pub row : NewRow text work' b n m r
  pub visits : (i : ℕ) → n.steps ≤ i → i < m.steps → StepRow text work' (b.steps + 3 * i)
  pub spent : Spent (part start size text) n m
  -- segments that were found by their IDs are found, and a new one is
  pub names : NamesSlotted text work b n.segs → NamesSlotted text work' b m.segs
  pub long : length work' ≡ length work
  pub only : Only (rows_of b n m) work work'

-- The line is refused with this number, behind the segments of the table.
pub record LineRefused (text work : List ℕ) (b : Bases) (n : Counts) (start size k : ℕ) : Type 0 where
  pub read : parse_line (ids_of (segments_at text work b.segs n.segs)) (part_at text start size) ≡ refused k

-- by the cases of the answer
abbrev pub AddedSays : List ℕ → List ℕ → List ℕ → Bases → Counts → ℕ → ℕ → Result (Record × Counts) Reason → Type 0
AddedSays text work work' b n start size (Ok p) = Entered text work work' b n start size p.0 p.1
AddedSays text work work' b n start size (Err k) = LineRefused text work b n start size (number_of k)

-- What is said of a line whose record was added.
pub record AddedIs (text work work' : List ℕ) (b : Bases) (n : Counts) (start size : ℕ) (a : Result (Record × Counts) Reason) : Type 0 where
  pub says : AddedSays text work work' b n start size a

-- the record stands in the line table too
abbrev pub Held : List ℕ → Bases → Counts → Result (Record × Counts) Reason → Type 0
Held work b n (Ok p) = record_at work (b.lines + 3 * n.lines) ≡ p.0
Held work b n (Err k) = Unit {0}

-- What is said of a line that was read.
pub record LineRead (text work work' : List ℕ) (b : Bases) (n : Counts) (start size : ℕ) (a : Result (Record × Counts) Reason) : Type 0 where
  pub says : AddedSays text work work' b n start size a
  pub held : Held work' b n a
