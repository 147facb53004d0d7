use Rattle.std.proofs.Common.{arith}
use Rattle.gfa_spec.proofs.Counting.{bit_byte}
use Rattle.runs.proofs.Totals.{tallied_start, tallied_more, tallied_end}
use Rattle.runs.proofs.counts.self_links.Goals as goal

pub loop-i-init : goal.loop-i-init
loop-i-init c = (omega arith, tallied_start)

pub overflow_add-total : goal.overflow_add-total
overflow_add-total c = omega (arith, c.loop-i.invariant.1.few, bit_byte _ c.from-total.ensures, c.args.graph.now.readable.few.2)

pub loop-i-preserved : goal.loop-i-preserved
loop-i-preserved c = (omega arith, tallied_more c.loop-i.invariant.1 c.link.ensures c.is_self_link.ensures c.from-total.ensures)

pub returns : goal.returns
returns c = tallied_end c.loop-i.invariant.0 c.loop-i-test.false c.loop-i.invariant.1
