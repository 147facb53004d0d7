-- `node_lines::output::put_pair` meets its contract: the pair is not there, or it is the first, or it is behind another. Assumes nothing.
use Rattle.node_lines.proofs.Pieces.{pair_none, pair_first, pair_next}
use Rattle.node_lines.proofs.output.put_pair.Goals as goal

pub returns-then-bits-weight-ne1 : goal.returns-then-bits-weight-ne1
returns-then-bits-weight-ne1 c = pair_none _ _ _ _ c.if-bits-weight-ne1.true

pub returns-then-bits-weight-eq0 : goal.returns-then-bits-weight-eq0
returns-then-bits-weight-eq0 c = pair_first _ _ _ _ c.if-bits-weight-ne1.false c.if-bits-weight-eq0.true c.put.ensures

pub returns-else-bits-weight-eq0 : goal.returns-else-bits-weight-eq0
returns-else-bits-weight-eq0 c = pair_next _ _ _ _ c.if-bits-weight-ne1.false c.if-bits-weight-eq0.false c.put-else-bits-weight-eq0.ensures
