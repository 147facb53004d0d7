-- `rewrite::links::put_kept_link` meets its contract: the link is removed, or its line is written. Assumes nothing.
use Rattle.rewrite.proofs.RawLines.{kept_passed, kept_put}
use Rattle.rewrite.proofs.links.put_kept_link.Goals as goal

pub returns-then-ends : goal.returns-then-ends
returns-then-ends c = search kept_passed

pub returns : goal.returns
returns c = search kept_put
