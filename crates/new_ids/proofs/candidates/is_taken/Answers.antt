-- `new_ids::candidates::is_taken` meets its contract. Assumes nothing.
use native.Mathlib.Omega.{arith}
use Rattle.normalize_spec.specs.NewNames.{new_name}
use Rattle.tables.proofs.Finding.{find_start, find_below}
use Rattle.new_ids.proofs.Kin.{taken_hit, taken_more, taken_none}
use Rattle.new_ids.proofs.candidates.is_taken.Goals as goal

pub loop-k-init : goal.loop-k-init
loop-k-init c =
    let r = c.args.graph.now.readable in
    find_start r.sound.names r.laid.heads _ (new_name c.args.unit.now c.args.count c.args.suffix) c.new_name_sum.ensures c.in_slot-k-items.ensures c.into_iter-k-iterator.ensures.into_iter_gives

pub segment-requires : goal.segment-requires
segment-requires c = find_below c.loop-k.invariant c.in-Some.ensures.steps

pub loop-k-preserved : goal.loop-k-preserved
loop-k-preserved c = taken_more c.loop-k.invariant c.in-Some.ensures.steps c.segment.ensures (rw c.of.ensures at c.is_new_name.ensures) c.if-is_new_name.false

pub overflow_cast-k : goal.overflow_cast-k
overflow_cast-k c = omega (arith, find_below c.loop-k.invariant c.in-Some.ensures.steps, c.args.graph.now.readable.few)

pub returns-then-is_new_name : goal.returns-then-is_new_name
returns-then-is_new_name c = taken_hit c.loop-k.invariant c.in-Some.ensures.steps c.segment.ensures (rw c.of.ensures at c.is_new_name.ensures) c.if-is_new_name.true

pub returns : goal.returns
returns c = taken_none c.loop-k.invariant c.in-None.ensures.steps
