use Rattle.writers.proofs.Rowing.{pieces_none, pieces_next}
use Rattle.rewrite.proofs.news.put_new_segments.Goals as goal

pub loop-j-init : goal.loop-j-init
loop-j-init c = pieces_none _

pub loop-j-preserved : goal.loop-j-preserved
loop-j-preserved c = pieces_next _ c.loop-j.invariant c.put_new_segment.ensures
