use Rattle.writers.proofs.Rowing.{pieces_none, pieces_next}
use Rattle.rewrite.proofs.links.put_kept_links.Goals as goal

pub loop-i-init : goal.loop-i-init
loop-i-init c = pieces_none _

pub loop-i-preserved : goal.loop-i-preserved
loop-i-preserved c = pieces_next _ c.loop-i.invariant c.put_kept_link.ensures
