-- The tables of a text: where they begin, how many rows they have, and what may be relied on. Lines, segments, links, paths and steps each have a table.
-- Document 01, "Forms that change".
use Rattle.std.specs.Prelude.{ℕ, ◌+◌, ◌≤◌, ◌<◌, ◌*◌, List, [], ◌∷◌, ◌≡◌, length}
use Rattle.tables.specs.declared.tables.Counts.{Counts}
use Rattle.tables.specs.declared.tables.Bases.{Bases}
use Rattle.gfa_spec.specs.Records.{segments, links, paths}
use Rattle.gfa_spec.specs.Runs.{step_count}
use Rattle.work.specs.Rows.{EachRow, Range, span, Only}
use Rattle.tables.specs.Segments.{segments_at, SegmentRow}
use Rattle.tables.specs.Names.{NamesSlotted}
use Rattle.tables.specs.Links.{links_at, LinkRow}
use Rattle.tables.specs.Steps.{StepRow}
use Rattle.tables.specs.Paths.{paths_at, PathRow}
use Rattle.tables.specs.Entries.{entries_at, EntryRow}

-- ---- counts

-- no count is large: so each fits into a word. Asked where counts are added to, and of the new steps' sums.
abbrev pub Few : Counts → Type 0
Few n = (n.lines ≤ 2097152) × (n.segs ≤ 2097152) × (n.links ≤ 2097152) × (n.paths ≤ 2097152) × (n.steps ≤ 2097152)

-- no rows
abbrev pub no_rows : Counts
no_rows = record { lines = 0; segs = 0; links = 0; paths = 0; steps = 0 }

-- one line more, and so many rows of each other table
abbrev pub one_more : Counts → ℕ → ℕ → ℕ → ℕ → Counts
one_more n segs links paths steps =
    record { lines = n.lines + 1; segs = n.segs + segs; links = n.links + links; paths = n.paths + paths; steps = n.steps + steps }

-- the tables of a tally, one behind the other: lines, segments, the words of their slots, links, paths and steps; each but the last has a row to spare,
-- and there is a slot more than segments
abbrev pub bases_for : Counts → Bases
bases_for t =
    record {
      lines = 0;
      segs = 3 * t.lines + 3;
      heads = 3 * t.lines + 3 + 7 * t.segs + 7;
      links = 3 * t.lines + 3 + 8 * t.segs + 8;
      paths = 3 * t.lines + 3 + 8 * t.segs + 8 + 8 * t.links + 8;
      steps = 3 * t.lines + 3 + 8 * t.segs + 8 + 8 * t.links + 8 + 5 * t.paths + 5;
    }

-- the words from the step table's base on that so many rows may use: a step 3 in its table and 5 more, a segment 5, a link 17, a path 8
abbrev pub share : Counts → ℕ
share n = 8 * n.steps + 5 * n.segs + 17 * n.links + 8 * n.paths

-- ---- the tables

-- the words of the rows from the counts n up to the counts m, and those of the slots
abbrev pub rows_of : Bases → Counts → Counts → List Range
rows_of b n m =
    span (b.lines + 3 * n.lines) (b.lines + 3 * m.lines)
    ∷ span (b.segs + 7 * n.segs) (b.segs + 7 * m.segs)
    ∷ span (b.links + 8 * n.links) (b.links + 8 * m.links)
    ∷ span (b.paths + 5 * n.paths) (b.paths + 5 * m.paths)
    ∷ span (b.steps + 3 * n.steps) (b.steps + 3 * m.steps)
    ∷ span b.heads b.links
    ∷ []

-- The tables stand one behind the other, the segments' with a row to spare, and there is a slot. From the step table's base on there is a share of words for
-- each row. Asked where places behind the tables are computed, of bases and counts alone; `Readable` holds it of tables that are read.
pub record Laid (b : Bases) (n : Counts) (room : ℕ) : Type 0 where
  pub lines : b.lines + 3 * n.lines ≤ b.segs
  pub segs : b.segs + 7 * n.segs + 7 ≤ b.heads
  pub heads : b.heads < b.links
  pub links : b.links + 8 * n.links ≤ b.paths
  pub paths : b.paths + 5 * n.paths ≤ b.steps
  pub steps : b.steps + share n ≤ room

-- What each row may be relied on for: its numbers are below the counts, and its starts and lengths name parts of the text; a segment is in the slot of
-- its ID.
pub record Sound (text work : List ℕ) (b : Bases) (n : Counts) : Type 0 where
  pub lines : EachRow (EntryRow text n) 3 work b.lines n.lines
  pub segs : EachRow (SegmentRow text) 7 work b.segs n.segs
  pub links : EachRow (LinkRow text) 8 work b.links n.links
  pub paths : EachRow (PathRow text n.steps) 5 work b.paths n.paths
  pub steps : EachRow (StepRow text) 3 work b.steps n.steps
  pub names : NamesSlotted text work b n.segs

-- The tables hold the segments, links and paths of the entries of the line table; no word outside their rows has changed.
pub record Tables (text before work : List ℕ) (b : Bases) (n : Counts) : Type 0 where
  pub of_segments : segments (entries_at text work b n.lines) ≡ segments_at text work b.segs n.segs
  pub of_links : links (entries_at text work b n.lines) ≡ links_at text work b.links n.links
  pub of_paths : paths (entries_at text work b n.lines) ≡ paths_at text b.steps work b.paths n.paths
  -- the steps of all paths are the rows of the step table
  pub visits : step_count (entries_at text work b n.lines) ≡ n.steps
  pub laid : Laid b n (length work)
  pub few : Few n
  pub sound : Sound text work b n
  pub long : length work ≡ length before
  pub only : Only (rows_of b no_rows n) before work

-- ---- tables to be read

-- Tables that may be read: they lie within the work area, they are not long, and each row may be relied on.
pub record Readable (text work : List ℕ) (b : Bases) (n : Counts) : Type 0 where
  pub laid : Laid b n (length work)
  pub few : Few n
  pub sound : Sound text work b n

-- A step's row stands at the word `at`.
pub record StepThere (text work : List ℕ) (at : ℕ) : Type 0 where
  pub room : at + 3 ≤ length work
  pub row : StepRow text work at

-- A link's row stands at the word `at`.
pub record LinkThere (text work : List ℕ) (at : ℕ) : Type 0 where
  pub room : at + 8 ≤ length work
  pub row : LinkRow text work at
