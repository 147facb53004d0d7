-- The listing of document 01, "The report's lines", and a few graphs beside it, as one computed table. Assumes nothing.
use Prim.Native.Nat.{ℕ, ◌+◌, ◌*◌}
use Prim.Native.String.{String}
use mathlib.Core.Bool.{Bool, false}
use mathlib.Core.List.{List, [], ◌∷◌}
use lib.Dec.{T}
use lib.ListN.{length}
use Rattle.gfa_spec.specs.Bytes.{bytes, same, all}
use Rattle.gfa_spec.specs.Calls.{Outcome, answer}
use Rattle.report_spec.specs.Services.{report_text}
use Rattle.report_spec.proofs.Computing.{computing}

-- is the answer these bytes?
answers : List ℕ → Outcome → Bool
answers out (Outcome.refusal r) = false
answers out (answer bs) = same out bs

-- the report of a text with so many nodes, with room and work enough
reports : String → ℕ → String → Bool
reports text top out = answers (bytes out) (report_text (bytes text) top 16384 (4 * length (bytes text) + 64))

-- the listing's input
listing : String
listing = "S\t1\tAC\nL\t1\t+\t1\t+\t0M\nP\tp\t1+,1+,1+\t*\n"

-- The rows.
pub table : List Bool
table =
    -- the empty text: six totals of 0
    reports "" 10 "direct_self_loop_edges=0\ndirect_self_loop_nodes=0\nadjacent_same_node_path_steps=0\nadjacent_same_step_path_steps=0\nrepeated_path_runs=0\nmax_repeat_run_len=0\n"
    -- the listing
    ∷ reports listing 10 "direct_self_loop_edges=1\ndirect_self_loop_nodes=1\nadjacent_same_node_path_steps=2\nadjacent_same_step_path_steps=2\nrepeated_path_runs=1\nmax_repeat_run_len=3\nlength_bucket=2,1,1\nnode=1\norder=0\nsequence_len=2\nsequence_preview=AC\ndirect_self_loop_edges=1\nlink_orientations=++\ntotal_path_visits=3\ndistinct_paths=1\nadjacent_same_node_path_steps=2\nadjacent_same_step_path_steps=2\nrepeated_path_runs=1\nmax_repeat_run_len=3\nmax_repeat_run_path=p\n"
    -- no node asked for: totals and buckets stay
    ∷ reports listing 0 "direct_self_loop_edges=1\ndirect_self_loop_nodes=1\nadjacent_same_node_path_steps=2\nadjacent_same_step_path_steps=2\nrepeated_path_runs=1\nmax_repeat_run_len=3\nlength_bucket=2,1,1\n"
    -- a self-link on an unknown node, twice, `+ -` before `+ +`: its number is the largest, its orientations are sorted
    ∷ reports "L\t9\t+\t9\t-\t0M\nL\t9\t+\t9\t+\t0M\n" 1 "direct_self_loop_edges=2\ndirect_self_loop_nodes=1\nadjacent_same_node_path_steps=0\nadjacent_same_step_path_steps=0\nrepeated_path_runs=0\nmax_repeat_run_len=0\nlength_bucket=0,1,2\nnode=9\norder=18446744073709551615\nsequence_len=0\nsequence_preview=\ndirect_self_loop_edges=2\nlink_orientations=++,+-\ntotal_path_visits=0\ndistinct_paths=0\nadjacent_same_node_path_steps=0\nadjacent_same_step_path_steps=0\nrepeated_path_runs=0\nmax_repeat_run_len=0\nmax_repeat_run_path=\n"
    -- two nodes: the one with more equal pairs goes first; `*` has no length; the first path that has the longest run
    ∷ reports "S\ta\t*\nS\tb\tACG\nL\ta\t-\ta\t-\t0M\nL\tb\t+\tb\t+\t0M\nP\tp\ta+,b+\t*\nP\tq\tb+,b+\t*\nP\tr\tb-,b-\t*\n" 2 "direct_self_loop_edges=2\ndirect_self_loop_nodes=2\nadjacent_same_node_path_steps=2\nadjacent_same_step_path_steps=2\nrepeated_path_runs=2\nmax_repeat_run_len=2\nlength_bucket=0,1,1\nlength_bucket=3,1,1\nnode=b\norder=1\nsequence_len=3\nsequence_preview=ACG\ndirect_self_loop_edges=1\nlink_orientations=++\ntotal_path_visits=5\ndistinct_paths=3\nadjacent_same_node_path_steps=2\nadjacent_same_step_path_steps=2\nrepeated_path_runs=2\nmax_repeat_run_len=2\nmax_repeat_run_path=q\nnode=a\norder=0\nsequence_len=0\nsequence_preview=*\ndirect_self_loop_edges=1\nlink_orientations=--\ntotal_path_visits=1\ndistinct_paths=1\nadjacent_same_node_path_steps=0\nadjacent_same_step_path_steps=0\nrepeated_path_runs=0\nmax_repeat_run_len=0\nmax_repeat_run_path=\n"
    ∷ []

-- Every row holds.
pub table_holds : T (all (λ b. b) table)
unfolding table reports answers listing computing
table_holds = tt
