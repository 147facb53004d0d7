-- `rewrite::news::put_new_segment` meets its contract, piece by piece. Assumes nothing.
use Rattle.rewrite.proofs.NewLines.{new_put}
use Rattle.rewrite.proofs.news.put_new_segment.Goals as goal

pub returns : goal.returns
returns c = search new_put
