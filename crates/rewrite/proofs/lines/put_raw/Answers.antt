use Rattle.writers.proofs.Rowing.{pieces_none, pieces_next}
use Rattle.rewrite.proofs.lines.put_raw.Goals as goal

pub loop-i-init : goal.loop-i-init
loop-i-init c = pieces_none _

pub loop-i-preserved : goal.loop-i-preserved
loop-i-preserved c = pieces_next _ c.loop-i.invariant c.put_raw_line.ensures
