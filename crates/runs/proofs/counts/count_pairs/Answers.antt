use Rattle.runs.proofs.Totals.{pairing_more, pairing_end}
use Rattle.runs.proofs.counts.count_pairs.Goals as goal

pub loop-j-preserved : goal.loop-j-preserved
loop-j-preserved c = pairing_more c.loop-j.invariant c.loop-j-test.true c.step-last.ensures c.step-here.ensures c.same_node.ensures c.from-nodes.ensures c.same_step.ensures c.from-steps.ensures

pub returns : goal.returns
returns c = pairing_end c.loop-j.invariant c.loop-j-test.false
