use Rattle.writers.proofs.Rowing.{pieces_none, pieces_next}
use Rattle.path_lines.proofs.paths.put_paths.Goals as goal

pub loop-p-init : goal.loop-p-init
loop-p-init c = pieces_none _

pub loop-p-preserved : goal.loop-p-preserved
loop-p-preserved c = pieces_next _ c.loop-p.invariant c.put_path.ensures
