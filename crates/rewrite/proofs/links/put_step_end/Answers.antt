-- `rewrite::links::put_step_end` meets its contract: the name and the orientation of the step. Assumes nothing.
use Rattle.rewrite.proofs.NewLines.{end_put}
use Rattle.rewrite.proofs.links.put_step_end.Goals as goal

pub returns : goal.returns
returns c = search end_put
