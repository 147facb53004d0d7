use Rattle.writers.proofs.Rowing.{pieces_none, pieces_next}
use Rattle.path_lines.proofs.paths.put_tokens.Goals as goal

pub loop-k-init : goal.loop-k-init
loop-k-init c = pieces_none _

pub loop-k-preserved : goal.loop-k-preserved
loop-k-preserved c = pieces_next _ c.loop-k.invariant c.put_token.ensures
