-- The report's totals, and the whole report from the tables.
use Rattle.std.specs.Prelude.{ℕ, ◌+◌, ◌-◌, ◌≤◌, ◌<◌, min, max, cond, List, [], ◌∷◌, ◌++◌, map, ◌≡◌, leb, length, get_or}
use Rattle.gfa_spec.specs.Bytes.{bytes, keep, join, ended, count}
use Rattle.gfa_spec.specs.Records.{is_self_link}
use Rattle.gfa_spec.specs.Runs.{Run, is_repeat, runs as runs_of, pairs, same_node, same_step}
use Rattle.work.specs.Rows.{span, Only}
use Rattle.tables.specs.declared.tables.Bases.{Bases}
use Rattle.tables.specs.declared.tables.Counts.{Counts}
use Rattle.tables.specs.ByNumber.{segments_of, links_to, paths_to, steps_from, tables_end}
use Rattle.runs.specs.Counts.{over_rows}
use Rattle.report_spec.specs.Nodes.{repeats, longest as longest_of}
use Rattle.report_spec.specs.Lines.{number, node_lines}
use Rattle.report.specs.declared.totals.Repeats.{Repeats}
use Rattle.report.specs.declared.totals.Totals.{Totals}
use Rattle.report.specs.declared.totals.Areas.{Areas}
use Rattle.ranks.specs.declared.ranking.Order.TheVariants.{Lengths, Ranks}
use Rattle.ranks.specs.Sorting.{sort_by}
use Rattle.nodes.specs.Table.{nodes_end, CountRows, NodeTable}
use Rattle.ranks.specs.Ranking.{node_key, goes_by, nums_at, up_to, OrderedIs}
use Rattle.node_lines.specs.NodeLines.{listed, Printable}
use Rattle.node_lines.specs.Groups.{buckets, Rising}

-- ---- runs of two or more

-- with some runs
abbrev pub repeats_with : Repeats → List Run → Repeats
repeats_with t rs = record { runs = t.runs + length (keep is_repeat rs); longest = max t.longest (longest_of (keep is_repeat rs)) }

-- with one run of so many steps
abbrev pub with_run : Repeats → ℕ → Repeats
with_run t times = cond (leb 2 times) (record { runs = t.runs + 1; longest = max t.longest times }) t

-- The runs of the steps from `first` up to `end` are counted.
pub record RepeatsIs (text work : List ℕ) (b : Bases) (first end : ℕ) (t r : Repeats) : Type 0 where
  pub is : r ≡ repeats_with t (runs_of (steps_from text work b first end))
  pub few : r.runs ≤ t.runs + (end - first)

-- The runs of two or more of all paths.
pub record AllRepeats (text work : List ℕ) (b : Bases) (n : Counts) (r : Repeats) : Type 0 where
  pub runs : r.runs ≡ length (join (map repeats (paths_to text work b n.paths)))
  pub longest : r.longest ≡ longest_of (join (map repeats (paths_to text work b n.paths)))

-- The totals of all links and paths.
pub record TotalsIs (text work : List ℕ) (b : Bases) (n : Counts) (t : Totals) : Type 0 where
  pub links : t.links ≡ count is_self_link (links_to text work b n.links)
  pub nodes : t.nodes ≡ over_rows (pairs same_node) text work b n
  pub steps : t.steps ≡ over_rows (pairs same_step) text work b n
  pub runs : t.runs ≡ length (join (map repeats (paths_to text work b n.paths)))
  pub longest : t.longest ≡ longest_of (join (map repeats (paths_to text work b n.paths)))

-- ---- the order of the nodes

-- where the node table stands, the numbers by length, those by rank, and words to spare: behind a row for each link
abbrev pub lengths_of : Bases → Counts → ℕ
lengths_of b n = nodes_end (tables_end b n) n.links

abbrev pub ranks_of : Bases → Counts → ℕ
ranks_of b n = lengths_of b n + n.links

abbrev pub areas_of : Bases → Counts → Areas
areas_of b n = record { table = tables_end b n; lengths = lengths_of b n; ranks = ranks_of b n; spare = ranks_of b n + n.links }

-- What is asked before m nodes are ordered: their table, their numbers by length and by rank, and words to spare, one behind the other.
pub record Orderable (work : List ℕ) (a : Areas) (m : ℕ) : Type 0 where
  pub table : nodes_end a.table m ≤ a.lengths
  pub lengths : a.lengths + m ≤ a.ranks
  pub ranks : a.ranks + m ≤ a.spare
  pub room : a.spare + m ≤ length work
  pub few : m ≤ 2097152

-- They are ordered by length, and then by rank.
pub record OrderedBoth (work work' : List ℕ) (a : Areas) (m : ℕ) : Type 0 where
  pub between : List ℕ
  pub by_length : OrderedIs Lengths work between a.table m a.lengths a.spare
  pub by_rank : OrderedIs Ranks between work' a.table m a.ranks a.spare
  pub long : length work' ≡ length work

-- The nodes are found, counted and ordered, by length and by rank; the tables of the text are kept.
pub record Ranked (text work work' : List ℕ) (b : Bases) (n : Counts) (m : ℕ) : Type 0 where
  pub table : NodeTable text (segments_of text work b n) (links_to text work b n.links) work' (tables_end b n) m
  pub counts : CountRows text (paths_to text work b n.paths) work' (tables_end b n) m
  pub by_length : nums_at work' (lengths_of b n) m ≡ sort_by (λ i j. goes_by Lengths (node_key work' (tables_end b n) i) (node_key work' (tables_end b n) j)) (up_to m)
  pub by_rank : nums_at work' (ranks_of b n) m ≡ sort_by (λ i j. goes_by Ranks (node_key work' (tables_end b n) i) (node_key work' (tables_end b n) j)) (up_to m)
  pub long : length work' ≡ length work
  pub only : Only (span (tables_end b n) ((areas_of b n).spare + n.links) ∷ []) work work'

-- ---- the report

-- the first six lines
unfoldable pub total_lines : Totals → ℕ → List (List ℕ)
total_lines t m =
    number (bytes "direct_self_loop_edges") t.links
    ∷ number (bytes "direct_self_loop_nodes") m
    ∷ number (bytes "adjacent_same_node_path_steps") t.nodes
    ∷ number (bytes "adjacent_same_step_path_steps") t.steps
    ∷ number (bytes "repeated_path_runs") t.runs
    ∷ number (bytes "max_repeat_run_len") t.longest
    ∷ []

-- the report, by the tables
unfoldable pub report_from : List ℕ → List ℕ → Bases → Counts → ℕ → Totals → ℕ → List ℕ
report_from text work b n m t top =
    ended (total_lines t m)
    ++ (ended (buckets (listed text work b n (lengths_of b n) m))
    ++ ended (join (map node_lines (listed text work b n (ranks_of b n) (min top m)))))

-- What is asked before the report is written.
pub record Reportable (text work : List ℕ) (b : Bases) (n : Counts) (m : ℕ) : Type 0 where
  pub few : m ≤ n.links
  pub rows : (i : ℕ) → i < m → Printable text work b n i
  pub lengths : (k : ℕ) → k < m → get_or work (lengths_of b n + k) 0 < m
  pub ranks : (k : ℕ) → k < m → get_or work (ranks_of b n + k) 0 < m
  pub rising : Rising (listed text work b n (lengths_of b n) m)
