use Rattle.writers.specs.Pieces.{lent_line}
use Rattle.writers.proofs.NumberLines.{numbering_start, numbering_more, numbering_end}
use Rattle.writers.proofs.pieces.put_number_lines.Goals as goal

pub loop-name-init : goal.loop-name-init
loop-name-init c = numbering_start lent_line c.args.lines.now

pub loop-name-preserved : goal.loop-name-preserved
loop-name-preserved c = numbering_more lent_line _ c.loop-name.invariant _ c.loop-name-test.true c.put_number_line.ensures

pub returns : goal.returns
returns c = numbering_end lent_line _ c.loop-name.invariant c.loop-name-test.false
