-- The fourteen counters of NormalizeSelfLoopsStats. Document 01, "Folding", the last paragraphs.
use Rattle.std.specs.Prelude.{ℕ, ◌+◌, List, map, length}
use Rattle.gfa_spec.specs.Bytes.{any, count, sum}
use Rattle.gfa_spec.specs.Reading.{Path, Entry, Segment}
use Rattle.gfa_spec.specs.Records.{links, paths, is_self_link, self_links}
use Rattle.gfa_spec.specs.Runs.{runs, pairs, same_node_pairs, same_step_pairs, step_count}
use Rattle.normalize_spec.specs.Folding.{transform, folded, is_folded_run, same_new_node, same_new_step}
use Rattle.normalize_spec.specs.Links.{kept, added, is_removed}

-- The counters, in the order of the Rust.
pub record Stats : Type 0 where
  pub input_direct_self_loop_edges : ℕ
  pub output_direct_self_loop_edges : ℕ
  pub input_adjacent_same_node_path_steps : ℕ
  pub output_adjacent_same_node_path_steps : ℕ
  pub input_adjacent_same_step_path_steps : ℕ
  pub output_adjacent_same_step_path_steps : ℕ
  pub normalized_nodes : ℕ
  pub collapsed_runs : ℕ
  pub created_segments : ℕ
  pub added_links : ℕ
  pub removed_self_loop_links : ℕ
  pub paths_changed : ℕ
  pub path_steps_before : ℕ
  pub path_steps_after : ℕ

-- under rule 3 output counters equal input counters, and the six counts from folded segments to paths with a folded run are 0
unfoldable pub unchanged : List Entry → Stats
unchanged es = record {
  input_direct_self_loop_edges = self_links es;
  output_direct_self_loop_edges = self_links es;
  input_adjacent_same_node_path_steps = same_node_pairs es;
  output_adjacent_same_node_path_steps = same_node_pairs es;
  input_adjacent_same_step_path_steps = same_step_pairs es;
  output_adjacent_same_step_path_steps = same_step_pairs es;
  normalized_nodes = 0;
  collapsed_runs = 0;
  created_segments = 0;
  added_links = 0;
  removed_self_loop_links = 0;
  paths_changed = 0;
  path_steps_before = step_count es;
  path_steps_after = step_count es;
}

-- how many runs of a path are turned into one step
unfoldable pub folded_runs : List Segment → Path → ℕ
folded_runs fs p = count (is_folded_run fs) (runs p.steps)

-- else each counter is a count over the input, or over the text that is written: its self-links are those kept and those added
unfoldable pub rewritten_stats : List Entry → ℕ → Stats
rewritten_stats es cap =
    let t = transform es cap in
    let fs = folded es cap in
    record {
      input_direct_self_loop_edges = self_links es;
      output_direct_self_loop_edges = count is_self_link (kept es cap) + count (λ k. same_new_node k.from k.to) (added es cap);
      input_adjacent_same_node_path_steps = same_node_pairs es;
      output_adjacent_same_node_path_steps = sum (map (pairs same_new_node) t.paths);
      input_adjacent_same_step_path_steps = same_step_pairs es;
      output_adjacent_same_step_path_steps = sum (map (pairs same_new_step) t.paths);
      normalized_nodes = length fs;
      collapsed_runs = sum (map (folded_runs fs) (paths es));
      created_segments = length t.made.new;
      added_links = length (added es cap);
      removed_self_loop_links = count (is_removed fs) (links es);
      paths_changed = count (λ p. any (is_folded_run fs) (runs p.steps)) (paths es);
      path_steps_before = step_count es;
      path_steps_after = sum (map length t.paths);
    }
