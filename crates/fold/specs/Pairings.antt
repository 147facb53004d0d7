-- The adjacent pairs of new paths. Document 01, the counters of "Folding".
use Rattle.std.specs.Prelude.{ℕ, ◌+◌, ◌-◌, ◌≤◌, true, List, map, ◌≡◌, length}
use Rattle.gfa_spec.specs.Bytes.{sum, distinct}
use Rattle.gfa_spec.specs.Runs.{pairs}
use Rattle.normalize_spec.specs.Folding.{same_new_node, same_new_step}
use Rattle.runs.specs.declared.counts.Pairs.{Pairs}
use Rattle.tables.specs.declared.tables.Counts.{Counts}
use Rattle.normalize_tables.specs.declared.layout.Layout.{Layout}
use Rattle.normalize_tables.specs.declared.layout.Made.{Made}
use Rattle.normalize_tables.specs.NewByNumber.{new_steps_from, new_paths_to}

-- The adjacent pairs of the new steps from `first` up to `end`, whatever the names of the nodes, of which no two are equal; there are no more
-- pairs than steps.
pub record NewPairsIs (work : List ℕ) (n : Counts) (g : Layout) (m : Made) (first end : ℕ) (r : Pairs) : Type 0 where
  pub nodes : (names : List (List ℕ)) → distinct names ≡ true → length names ≡ n.segs + m.segs → r.nodes ≡ pairs same_new_node (new_steps_from names work g first end)
  pub steps : (names : List (List ℕ)) → distinct names ≡ true → length names ≡ n.segs + m.segs → r.steps ≡ pairs same_new_step (new_steps_from names work g first end)
  pub few : (r.nodes ≤ end - first) × (r.steps ≤ end - first)

-- The adjacent pairs of all new paths.
pub record NewPairTotals (work : List ℕ) (n : Counts) (g : Layout) (m : Made) (r : Pairs) : Type 0 where
  pub nodes : (names : List (List ℕ)) → distinct names ≡ true → length names ≡ n.segs + m.segs → r.nodes ≡ sum (map (pairs same_new_node) (new_paths_to names work g n.paths))
  pub steps : (names : List (List ℕ)) → distinct names ≡ true → length names ≡ n.segs + m.segs → r.steps ≡ sum (map (pairs same_new_step) (new_paths_to names work g n.paths))
