-- `rewrite::rewritten::put_front` meets its contract: four sections. Assumes nothing.
use Rattle.rewrite.proofs.Whole.{front_put}
use Rattle.rewrite.proofs.rewritten.put_front.Goals as goal

pub returns : goal.returns
returns c = search front_put
