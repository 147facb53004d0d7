use native.Mathlib.Omega.{arith}
use Rattle.runs.proofs.Totals.{summed_start, summed_more, summed_end}
use Rattle.runs.proofs.counts.all_pairs.Goals as goal

pub loop-i-init : goal.loop-i-init
loop-i-init c = (omega arith, omega arith, omega arith, summed_start, summed_start)

pub loop-i-preserved : goal.loop-i-preserved
loop-i-preserved c = let p = c.path-path.ensures in let m = c.count_pairs-more.ensures in (omega arith, omega (arith, p.high, c.args.graph.now.readable.few), omega (arith, p.high, c.args.graph.now.readable.few), summed_more c.loop-i.invariant.3 c.loop-i-test.true p m.nodes, summed_more c.loop-i.invariant.4 c.loop-i-test.true p m.steps)

pub returns : goal.returns
returns c = record { nodes = summed_end c.loop-i.invariant.3 c.loop-i-test.false; steps = summed_end c.loop-i.invariant.4 c.loop-i-test.false }
