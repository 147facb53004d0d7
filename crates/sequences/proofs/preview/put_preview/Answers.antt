-- `sequences::preview::put_preview` meets its contract: by how long the sequence is.
use Rattle.std.proofs.Common.{sym, arith, length-take-le}
use Rattle.gfa_spec.specs.Bytes.{bytes}
use Rattle.sequences.proofs.SequenceLaws.{puts_short, puts_long}
use Rattle.sequences.proofs.preview.put_preview.Goals as goal

pub slice_bounds-put-end : goal.slice_bounds-put-end
slice_bounds-put-end c = sym (length-take-le _ c.args.s.now (omega arith))

pub returns-then-whole : goal.returns-then-whole
returns-then-whole c = puts_short c.args.s.now c.if-whole.true c.put.ensures

pub returns-else-whole : goal.returns-else-whole
unfolding bytes
returns-else-whole c = puts_long c.args.s.now c.if-whole.false c.put-else-whole.ensures c.put-else-whole-2.ensures
