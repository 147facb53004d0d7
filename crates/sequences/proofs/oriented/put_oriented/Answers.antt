-- `sequences::oriented::put_oriented` meets its contract: by the orientation.
use Rattle.sequences.proofs.SequenceLaws.{puts_forward, puts_reverse}
use Rattle.sequences.proofs.oriented.put_oriented.Goals as goal

pub returns-then-mark : goal.returns-then-mark
returns-then-mark c = puts_reverse c.args.s.now c.if-mark.true c.put_reversed.ensures

pub returns-else-mark : goal.returns-else-mark
returns-else-mark c = puts_forward c.args.s.now c.if-mark.false c.put.ensures
