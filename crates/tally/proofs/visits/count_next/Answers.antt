-- `tally::visits::count_next` meets its contract: the run is counted for the node of its first step. Assumes nothing.
use native.Mathlib.Omega.{arith}
use mathlib.Core.Path.{refl}
use Rattle.tally.proofs.Countings.{run_in, step_in, goes_in}
use Rattle.tally.specs.Visits.{Passable}
use Rattle.tally.proofs.Visiting.{fit_less, run_readable, next_counted}
use Rattle.tally.proofs.visits.count_next.Goals as goal

pub count_run-requires : goal.count_run-requires
count_run-requires c =
    let o = c.graph-graph.ensures in
    let at = rw (o.bases, o.counts) at c.end-table.ensures in
    let run = run_in o c.run_from-r.ensures in
    let f = c.requires.fits in
    (rw at c.requires.countable, (step_in o c.step.ensures).name, omega (arith, run.low), f.2, rw at (fit_less f.3 (omega (arith, run.high)) (omega arith)))

pub invariant_of-nodes : goal.invariant_of-nodes
invariant_of-nodes c =
    let o = c.graph-graph.ensures in
    record { readable = run_readable c.args.nodes.now.readable (rw (o.bases, o.counts) at c.end-table.ensures) c.count_run.ensures.frame }

pub returns : goal.returns
returns c =
    let o = c.graph-graph.ensures in
    let ready : Passable c.args.nodes.now.text.now c.args.nodes.now.work.now c.args.nodes.now.b c.args.nodes.now.n c.args.nodes.now.m = record { readable = c.args.nodes.now.readable; countable = c.requires.countable } in
    record {
      same = record { text = refl; loan = refl; bases = refl; counts = refl };
      none = refl;
      counts = next_counted (run_in o c.run_from-r.ensures) ready (rw (o.bases, o.counts) at c.end-table.ensures) (step_in o c.step.ensures) (goes_in o c.goes_on-more.ensures) c.count_run.ensures;
    }
