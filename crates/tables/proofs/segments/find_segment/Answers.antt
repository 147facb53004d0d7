-- `tables::segments::find_segment` meets its contract. Assumes nothing.
use native.Mathlib.Omega.{arith}
use mathlib.Core.Path.{◌∙◌, ap}
use Rattle.gfa_spec.specs.Sums.{name_sum}
use Rattle.scan.specs.Places.{bytes_in}
use Rattle.tables.proofs.Finding.{find_begins, find_start, find_below, found_hit, found_more, found_none}
use Rattle.tables.proofs.segments.find_segment.Goals as goal

pub in_slot-k-items-requires : goal.in_slot-k-items-requires
in_slot-k-items-requires c = record { room = omega (arith, c.requires.room); begins = find_begins c.requires.names c.requires.room.1 _ }

pub loop-k-init : goal.loop-k-init
loop-k-init c =
    find_start c.requires.names c.requires.room.1 _ (bytes_in c.args.text.now c.args.name) (c.name_sum.ensures ∙ ap name_sum c.of.ensures) c.in_slot-k-items.ensures
    c.into_iter-k-iterator.ensures.into_iter_gives

pub has_name-requires : goal.has_name-requires
has_name-requires c =
    let low = find_below c.loop-k.invariant c.in-Some.ensures.steps in
    record { inside = c.requires.inside; row = (omega (arith, low, c.requires.room), c.requires.each_row.row _ low) }

pub overflow_cast-result : goal.overflow_cast-result
overflow_cast-result c = omega (arith, find_below c.loop-k.invariant c.in-Some.ensures.steps, c.requires.room)

pub returns-then-has_name : goal.returns-then-has_name
returns-then-has_name c = found_hit c.args.name c.loop-k.invariant c.in-Some.ensures.steps c.has_name.ensures c.if-has_name.true

pub loop-k-preserved : goal.loop-k-preserved
loop-k-preserved c = found_more c.args.name c.loop-k.invariant c.in-Some.ensures.steps c.has_name.ensures c.if-has_name.false

pub returns : goal.returns
returns c = found_none c.args.name c.loop-k.invariant c.in-None.ensures.steps
