-- The statistics that are returned, as the definition's counters. Document 01, "Folding".
use Rattle.std.specs.Prelude.{ℕ, List, ◌≡◌}
use Rattle.gfa_spec.specs.Bytes.{count}
use Rattle.gfa_spec.specs.Records.{is_self_link}
use Rattle.gfa_spec.specs.Runs.{pairs, same_node, same_step}
use Rattle.normalize_spec.specs.Counting.{Stats}
use Rattle.runs.specs.declared.counts.Pairs.{Pairs}
use Rattle.tables.specs.declared.tables.Bases.{Bases}
use Rattle.tables.specs.declared.tables.Counts.{Counts}
use Rattle.tables.specs.ByNumber.{links_to}
use Rattle.runs.specs.Counts.{over_rows}
use Rattle.normalize_tables.specs.declared.layout.Made.{Made}
use Rattle.relink.specs.declared.settle.Links.{Links}
use Rattle.normalize_answers.specs.declared.stats.NormalizeSelfLoopsStats.{NormalizeSelfLoopsStats}

-- each of the fourteen counters that are returned is the definition's counter of that name
unfoldable pub counters : NormalizeSelfLoopsStats → Stats
counters r =
    record {
      input_direct_self_loop_edges = r.input_direct_self_loop_edges;
      output_direct_self_loop_edges = r.output_direct_self_loop_edges;
      input_adjacent_same_node_path_steps = r.input_adjacent_same_node_path_steps;
      output_adjacent_same_node_path_steps = r.output_adjacent_same_node_path_steps;
      input_adjacent_same_step_path_steps = r.input_adjacent_same_step_path_steps;
      output_adjacent_same_step_path_steps = r.output_adjacent_same_step_path_steps;
      normalized_nodes = r.normalized_nodes;
      collapsed_runs = r.collapsed_runs;
      created_segments = r.created_segments;
      added_links = r.added_links;
      removed_self_loop_links = r.removed_self_loop_links;
      paths_changed = r.paths_changed;
      path_steps_before = r.path_steps_before;
      path_steps_after = r.path_steps_after;
    }

-- the counters of a text that is returned as it is, by its self-links, its adjacent pairs and its steps
unfoldable pub input_counters : ℕ → ℕ → ℕ → ℕ → Stats
input_counters links nodes pairs steps =
    record {
      input_direct_self_loop_edges = links;
      output_direct_self_loop_edges = links;
      input_adjacent_same_node_path_steps = nodes;
      output_adjacent_same_node_path_steps = nodes;
      input_adjacent_same_step_path_steps = pairs;
      output_adjacent_same_step_path_steps = pairs;
      normalized_nodes = 0;
      collapsed_runs = 0;
      created_segments = 0;
      added_links = 0;
      removed_self_loop_links = 0;
      paths_changed = 0;
      path_steps_before = steps;
      path_steps_after = steps;
    }

-- a refusal's counters: all are 0
unfoldable pub no_counters : Stats
no_counters = input_counters 0 0 0 0

-- The counters of the tables' text, were it returned as it is.
pub record InputStats (text work : List ℕ) (b : Bases) (n : Counts) (r : NormalizeSelfLoopsStats) : Type 0 where
  pub counts : counters r ≡ input_counters (count is_self_link (links_to text work b n.links)) (over_rows (pairs same_node) text work b n) (over_rows (pairs same_step) text work b n) n.steps

-- the counters of a rewritten text: those of the input stay; the others are what the passes counted
unfoldable pub rewritten_counters : Stats → ℕ → Made → Links → Pairs → Stats
rewritten_counters before nodes m l pairs =
    record {
      input_direct_self_loop_edges = before.input_direct_self_loop_edges;
      output_direct_self_loop_edges = l.loops;
      input_adjacent_same_node_path_steps = before.input_adjacent_same_node_path_steps;
      output_adjacent_same_node_path_steps = pairs.nodes;
      input_adjacent_same_step_path_steps = before.input_adjacent_same_step_path_steps;
      output_adjacent_same_step_path_steps = pairs.steps;
      normalized_nodes = nodes;
      collapsed_runs = m.runs;
      created_segments = m.segs;
      added_links = l.added;
      removed_self_loop_links = l.removed;
      paths_changed = m.changed;
      path_steps_before = before.path_steps_before;
      path_steps_after = m.steps;
    }
