-- What a run, a path and all paths add to the counters of the node table.
use Rattle.std.specs.Prelude.{ℕ, ◌+◌, ◌-◌, ◌≤◌, ◌<◌, Bool, cond, List, [], ◌∷◌, ◌≡◌, length}
use Rattle.gfa_spec.specs.Bytes.{same}
use Rattle.gfa_spec.specs.Runs.{runs}
use Rattle.work.specs.Rows.{span, Only}
use Rattle.tables.specs.declared.tables.Bases.{Bases}
use Rattle.tables.specs.declared.tables.Counts.{Counts}
use Rattle.scan.specs.declared.places.Place.{Place}
use Rattle.scan.specs.Places.{bytes_in}
use Rattle.tables.specs.ByNumber.{paths_to, steps_from, tables_end}
use Rattle.tables.specs.Tables.{Readable}
use Rattle.nodes.specs.Counters.{counted_of, goes_on, finish, CounterFits}
use Rattle.nodes.specs.Table.{nodes_end, node_no, counter_no, name_no, NamesInside, CountRows, Differ}

-- The counters of the first m nodes fit while so many steps of a path of this number are left: of no value alone, since each call has another number.
pub record FitRows (left path : ℕ) (work : List ℕ) (table m : ℕ) : Type 0 where
  pub row : (k : ℕ) → k < m → CounterFits left path (counter_no work table k)

-- What is asked before a node is counted: its table lies in the work area, its rows name parts of the text, and no two of them one name.
-- `Counting` does not hold it: the pass over the links goes by that struct too, and makes the rows.
pub record Countable (text work : List ℕ) (table m : ℕ) : Type 0 where
  pub names : NamesInside text work table m
  pub apart : Differ text work table m

-- The same, behind tables that may be read.
pub record Passable (text work : List ℕ) (b : Bases) (n : Counts) (m : ℕ) : Type 0 where
  pub readable : Readable text work b n
  pub countable : Countable text work (tables_end b n) m

-- The counters of m rows alone have changed.
pub record Recounted (work work' : List ℕ) (table m : ℕ) : Type 0 where
  pub nodes_same : (k : ℕ) → k < m → node_no work' table k ≡ node_no work table k
  pub long : length work' ≡ length work
  pub only : Only (span table (nodes_end table m) ∷ []) work work'

-- A run of `times` steps on a name is counted for the node with that name, and for no other.
pub record RunCounted (text work work' : List ℕ) (table m : ℕ) (name : Place) (times path : ℕ) (more : Bool) : Type 0 where
  pub rows : (k : ℕ) → k < m → counter_no work' table k
      ≡ cond (same (bytes_in text name) (name_no text work table k)) (counted_of (counter_no work table k) times path more) (counter_no work table k)
  pub frame : Recounted work work' table m

-- Is step r, of those before step `end`, on the node of this name?
pub record GoesOn (text work : List ℕ) (b : Bases) (name : Place) (r end : ℕ) (t : Bool) : Type 0 where
  pub is : t ≡ goes_on (bytes_in text name) (runs (steps_from text work b r end))

-- The run from step i up to step r, of those before step `end`, is counted.
pub record NextCounted (text work work' : List ℕ) (b : Bases) (n : Counts) (m i end path r : ℕ) : Type 0 where
  pub rows : (k : ℕ) → k < m →
      finish (name_no text work (tables_end b n) k) path (counter_no work (tables_end b n) k) (runs (steps_from text work b i end)) ≡
      finish (name_no text work (tables_end b n) k) path (counter_no work' (tables_end b n) k) (runs (steps_from text work b r end))
  pub fits : (left : ℕ) → FitRows (left + (end - i)) path work (tables_end b n) m → FitRows (left + (end - r)) path work' (tables_end b n) m
  pub low : i < r
  pub high : r ≤ end
  pub ready : Passable text work' b n m
  pub frame : Recounted work work' (tables_end b n) m

-- The steps from `first` up to `end` are counted, run by run.
pub record PathCounted (text work work' : List ℕ) (b : Bases) (n : Counts) (m first end path : ℕ) : Type 0 where
  pub rows : (k : ℕ) → k < m → counter_no work' (tables_end b n) k
      ≡ finish (name_no text work (tables_end b n) k) path (counter_no work (tables_end b n) k) (runs (steps_from text work b first end))
  pub fits : (left : ℕ) → FitRows (left + (end - first)) path work (tables_end b n) m → FitRows left path work' (tables_end b n) m
  pub ready : Passable text work' b n m
  pub frame : Recounted work work' (tables_end b n) m

-- All paths are counted.
pub record PathsCounted (text work work' : List ℕ) (b : Bases) (n : Counts) (m : ℕ) : Type 0 where
  pub rows : CountRows text (paths_to text work b n.paths) work' (tables_end b n) m
  pub frame : Recounted work work' (tables_end b n) m
