-- `rewrite::rewritten::put_back` meets its contract: three sections. Assumes nothing.
use Rattle.rewrite.proofs.Whole.{back_put}
use Rattle.rewrite.proofs.rewritten.put_back.Goals as goal

pub returns : goal.returns
returns c = search back_put
