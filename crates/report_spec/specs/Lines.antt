-- The lines of a report. Document 01, "The report's lines".
use Rattle.std.specs.Prelude.{ℕ, List, [], ◌∷◌, ◌++◌, map, eqb, length, take}
use Rattle.gfa_spec.specs.Bytes.{bytes, keep, sum, join, join_with, ended}
use Rattle.gfa_spec.specs.Decimal.{decimal}
use Rattle.gfa_spec.specs.Reading.{Entry}
use Rattle.gfa_spec.specs.Records.{paths, self_links}
use Rattle.gfa_spec.specs.Runs.{same_node_pairs, same_step_pairs}
use Rattle.report_spec.specs.Nodes.{Node, nodes, node_of, repeats, longest}
use Rattle.report_spec.specs.Order.{sort_nodes, lengths}

-- a line: a name, `=` (61), a value
unfoldable pub line : List ℕ → List ℕ → List ℕ
line name value = name ++ (61 ∷ value)

-- a line with a number
unfoldable pub number : List ℕ → ℕ → List ℕ
number name n = line name (decimal n)

-- the bucket of a length: the length, its nodes, and their self-links, with commas between
unfoldable pub bucket_line : List Node → ℕ → List ℕ
bucket_line ns n =
    let here = keep (λ a. eqb a.sequence_len n) ns in
    line (bytes "length_bucket") (join_with 44 (decimal n ∷ decimal (length here) ∷ decimal (sum (map (λ a. a.links) here)) ∷ []))

-- the thirteen lines of a node
unfoldable pub node_lines : Node → List (List ℕ)
node_lines a =
    line (bytes "node") a.name
    ∷ number (bytes "order") a.order
    ∷ number (bytes "sequence_len") a.sequence_len
    ∷ line (bytes "sequence_preview") a.preview
    ∷ number (bytes "direct_self_loop_edges") a.links
    ∷ line (bytes "link_orientations") (join_with 44 a.orientations)
    ∷ number (bytes "total_path_visits") a.visits
    ∷ number (bytes "distinct_paths") a.paths
    ∷ number (bytes "adjacent_same_node_path_steps") a.same_node
    ∷ number (bytes "adjacent_same_step_path_steps") a.same_step
    ∷ number (bytes "repeated_path_runs") a.runs
    ∷ number (bytes "max_repeat_run_len") a.longest
    ∷ line (bytes "max_repeat_run_path") a.longest_path
    ∷ []

-- six totals, the buckets, and the first `top` nodes
unfoldable pub report : List Entry → ℕ → List ℕ
report es top =
    let ns = map (node_of es) (nodes es) in
    let rs = join (map repeats (paths es)) in
    ended (
    (number (bytes "direct_self_loop_edges") (self_links es)
    ∷ number (bytes "direct_self_loop_nodes") (length ns)
    ∷ number (bytes "adjacent_same_node_path_steps") (same_node_pairs es)
    ∷ number (bytes "adjacent_same_step_path_steps") (same_step_pairs es)
    ∷ number (bytes "repeated_path_runs") (length rs)
    ∷ number (bytes "max_repeat_run_len") (longest rs)
    ∷ [])
    ++ (map (bucket_line ns) (lengths ns)
    ++ join (map node_lines (take top (sort_nodes ns)))))
