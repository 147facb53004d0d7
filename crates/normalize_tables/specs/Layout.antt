-- Where the normalizer's tables are, and what its passes rely on. Document 01, "Forms that change": maps and vectors are tables in the work area.
use Rattle.std.specs.Prelude.{ℕ, ◌+◌, ◌*◌, ◌≤◌, true, List, ◌≡◌, length}
use Rattle.tables.specs.declared.tables.Bases.{Bases}
use Rattle.tables.specs.declared.tables.Counts.{Counts}
use Rattle.tables.specs.Segments.{ids_of}
use Rattle.tables.specs.ByNumber.{segments_of, tables_end}
use Rattle.tables.specs.Tables.{Readable}
use Rattle.runs.specs.Counts.{over_rows}
use Rattle.normalize_tables.specs.declared.layout.Layout.{Layout}
use Rattle.gfa_spec.specs.Bytes.{distinct}

-- The tables stand one behind the other, behind the rows of the steps. A mark is a word; a new path has two, a new segment four of which
-- there is one for two steps at most, a new step two, an added link one, and the ends of a link three.
pub record Placed (b : Bases) (n : Counts) (g : Layout) (size : ℕ) : Type 0 where
  pub eligible : tables_end b n ≤ g.eligible
  pub folded : g.eligible + n.segs ≤ g.folded
  pub last : g.folded + n.segs ≤ g.last
  pub paths : g.last + n.segs ≤ g.paths
  pub segs : g.paths + 2 * n.paths ≤ g.segs
  pub steps : g.segs + 2 * n.steps ≤ g.steps
  pub added : g.steps + 2 * n.steps ≤ g.added
  pub ends : g.added + n.steps ≤ g.ends
  pub room : g.ends + 3 * n.links ≤ size

-- What the normalizer's passes rely on: the tables of a text, in which no two segments have one ID, and room behind them. It stands in the types
-- of what folds a text (`Normalizer`) and of a graph whose paths are transformed (`NewGraph`); no clause asks it alone.
pub record Source (text work : List ℕ) (b : Bases) (n : Counts) (g : Layout) : Type 0 where
  pub readable : Readable text work b n
  pub placed : Placed b n g (length work)
  pub apart : distinct (ids_of (segments_of text work b n)) ≡ true
  -- the paths have no more steps than the step table
  pub visits : over_rows length text work b n ≤ n.steps
