-- What is counted over the tables: adjacent pairs. Document 01, the counters of "Folding".
use Rattle.std.specs.Prelude.{ℕ, ◌+◌, ◌≤◌, List, map, ◌≡◌}
use Rattle.tables.specs.declared.tables.Bases.{Bases}
use Rattle.tables.specs.declared.tables.Counts.{Counts}
use Rattle.runs.specs.declared.counts.Pairs.{Pairs}
use Rattle.gfa_spec.specs.Bytes.{sum}
use Rattle.gfa_spec.specs.Reading.{Step}
use Rattle.gfa_spec.specs.Runs.{pairs, same_node, same_step}
use Rattle.tables.specs.ByNumber.{paths_to, steps_from}

-- The adjacent pairs of the steps from `first` up to `end`; there are no more of them than steps.
pub record PairsIs (text work : List ℕ) (b : Bases) (first end : ℕ) (r : Pairs) : Type 0 where
  pub nodes : r.nodes ≡ pairs same_node (steps_from text work b first end)
  pub steps : r.steps ≡ pairs same_step (steps_from text work b first end)
  pub few : (r.nodes + first ≤ end) × (r.steps + first ≤ end)

-- a count of steps, summed over the paths of the table
unfoldable pub over_rows : (List Step → ℕ) → List ℕ → List ℕ → Bases → Counts → ℕ
over_rows f text work b n = sum (map (λ p. f p.steps) (paths_to text work b n.paths))

-- The adjacent pairs of all paths.
pub record PairTotals (text work : List ℕ) (b : Bases) (n : Counts) (r : Pairs) : Type 0 where
  pub nodes : r.nodes ≡ over_rows (pairs same_node) text work b n
  pub steps : r.steps ≡ over_rows (pairs same_step) text work b n
