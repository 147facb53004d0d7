-- `rewrite::links::put_added_link` meets its contract: its two ends. Assumes nothing.
use Rattle.rewrite.proofs.NewLines.{pair_put}
use Rattle.rewrite.proofs.links.put_added_link.Goals as goal

pub returns : goal.returns
returns c = search pair_put
