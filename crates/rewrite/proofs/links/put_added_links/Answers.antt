use borrow.Author.Rules.{rules}
use Rattle.writers.proofs.Rowing.{pieces_none, pieces_next}
use Rattle.rewrite.proofs.NewLines.{added_put, added_step}
use Rattle.rewrite.proofs.links.put_added_links.Goals as goal

pub loop-i-init : goal.loop-i-init
loop-i-init c = pieces_none _

pub loop-i-preserved : goal.loop-i-preserved
loop-i-preserved c = pieces_next _ c.loop-i.invariant (search added_put)

pub put_added_link-requires : goal.put_added_link-requires
put_added_link-requires c = search (rules, added_step)
