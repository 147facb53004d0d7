-- `rewrite::rewritten::put_rewritten` meets its contract: the sections are the rewritten text. Assumes nothing.
use Rattle.rewrite.proofs.Whole.{whole_put}
use Rattle.rewrite.proofs.rewritten.put_rewritten.Goals as goal

pub returns : goal.returns
returns c = search whole_put
