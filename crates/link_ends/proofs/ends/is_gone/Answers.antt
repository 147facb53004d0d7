-- `link_ends::ends::is_gone` meets its contract, by its branches. Assumes nothing.
use Rattle.link_ends.proofs.Endings.{gone_other, gone_turned, gone_unknown, gone_new, gone_marked}
use Rattle.link_ends.proofs.ends.is_gone.Goals.{then-graph-k-via-then-graph-k, then-graph-k-via-else-graph-k+then-ne}
use Rattle.link_ends.proofs.ends.is_gone.Goals as goal

pub returns-in_default : goal.returns-in_default
returns-in_default c = search gone_unknown

pub returns-then-graph-k : goal.returns-then-graph-k
returns-then-graph-k c =
    elim c.then-graph-k.branch [
      | then-graph-k-via-then-graph-k w ↦ gone_new _ _ c.requires.apart c.in-Some.is w.if-graph-k.true
      | then-graph-k-via-else-graph-k+then-ne w ↦ gone_turned _ _ w.ne.ensures w.if-ne.true
    ]

pub returns-then-is_self_link : goal.returns-then-is_self_link
returns-then-is_self_link c = search gone_marked

pub returns-else-is_self_link : goal.returns-else-is_self_link
returns-else-is_self_link c = search gone_other
