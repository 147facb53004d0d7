-- What the passes over the tables of a text ask, and what the pass over the links makes of the words behind them.
use Rattle.std.specs.Prelude.{ℕ, ◌+◌, ◌≤◌, ◌<◌, List, [], ◌∷◌, ◌≡◌, length}
use Rattle.gfa_spec.specs.Reading.{Segment}
use Rattle.gfa_spec.specs.Records.{segment_number, sequence_or_empty}
use Rattle.gfa_spec.specs.Sequences.{sequence_len}
use Rattle.work.specs.Rows.{span, Only}
use Rattle.tables.specs.declared.tables.Bases.{Bases}
use Rattle.tables.specs.declared.tables.Counts.{Counts}
use Rattle.tables.specs.declared.rows.LinkWords.{LinkWords}
use Rattle.scan.specs.Orientations.{sign_of}
use Rattle.scan.specs.Places.{bytes_in}
use Rattle.tables.specs.Segments.{segment_found}
use Rattle.tables.specs.ByNumber.{segments_of, links_to, tables_end}
use Rattle.tables.specs.Tables.{Readable}
use Rattle.runs.specs.Counts.{over_rows}
use Rattle.nodes.specs.declared.nodes.NodeWords.{NodeWords}
use Rattle.nodes.specs.Counters.{no_counter}
use Rattle.nodes.specs.Table.{nodes_end, RowPut, marked_of, CountRows, NodeTable}

-- The tables of a text stand in the work area: the node table begins behind them. Asked where the passes over them begin.
pub record Tabled (text work : List ℕ) (b : Bases) (n : Counts) : Type 0 where
  pub readable : Readable text work b n
  pub short : length text ≤ 1048576
  pub visits : over_rows length text work b n ≡ n.steps

-- the row of a node by its first self-link
abbrev pub new_node : List ℕ → List Segment → LinkWords → NodeWords
new_node text ss l =
    record {
      name = l.from;
      number = segment_found (segment_number ss (bytes_in text l.from));
      long = sequence_len (sequence_or_empty ss (bytes_in text l.from));
      links = 1;
      bits = marked_of 0 (sign_of l.leaves) (sign_of l.enters);
    }

-- Row m is that of a new node.
pub record NodeAdded (text work work' : List ℕ) (b : Bases) (n : Counts) (m : ℕ) (l : LinkWords) : Type 0 where
  pub put : RowPut work work' (tables_end b n) m (new_node text (segments_of text work b n) l) no_counter

-- The node table has m rows for the first i links, and no path is counted; words behind the tables alone have changed.
pub record NodesIs (text before work : List ℕ) (b : Bases) (n : Counts) (i m : ℕ) : Type 0 where
  pub table : NodeTable text (segments_of text before b n) (links_to text before b i) work (tables_end b n) m
  pub fresh : CountRows text [] work (tables_end b n) m
  pub long : length work ≡ length before
  pub only : Only (span (tables_end b n) (nodes_end (tables_end b n) m) ∷ []) before work

-- What is asked before link i is counted: the node table of the links before it.
pub record LinkReady (text work : List ℕ) (b : Bases) (n : Counts) (i m : ℕ) : Type 0 where
  pub readable : Readable text work b n
  pub short : length text ≤ 1048576
  pub below : i < n.links
  pub table : NodeTable text (segments_of text work b n) (links_to text work b i) work (tables_end b n) m
  pub fresh : CountRows text [] work (tables_end b n) m

-- Link i is counted: there are r nodes with it.
pub record LinkAdded (text work work' : List ℕ) (b : Bases) (n : Counts) (i m r : ℕ) : Type 0 where
  pub is : NodesIs text work work' b n (i + 1) r
  pub low : m ≤ r
