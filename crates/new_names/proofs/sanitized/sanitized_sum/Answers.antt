use native.Mathlib.Omega.{arith}
use mathlib.Core.Path.{refl, sym, ◌∙◌}
use lib.Seq.{take_all}
use Rattle.gfa_spec.specs.Sums.{sum_from}
use Rattle.normalize_spec.specs.Folding.{sanitized}
use Rattle.gfa_spec.proofs.Sums.{sum_next}
use Rattle.new_names.proofs.Sanitizing.{length_sanitized, get_or_sanitized}
use Rattle.new_names.proofs.sanitized.sanitized_sum.Goals as goal

pub loop-b-init : goal.loop-b-init
unfolding sum_from
loop-b-init c = refl

pub loop-b-preserved : goal.loop-b-preserved
loop-b-preserved c =
    let s = c.args.s.now in
    let long = length_sanitized s in
    let byte = c.plain_byte.ensures ∙ sym (get_or_sanitized s c.loop-b.b-index c.loop-b-test.true) in
    c.stepped-sum.ensures ∙ rw (c.loop-b.invariant, byte) (sym (sum_next c.args.h c.loop-b.b-index _ (omega arith)))

pub returns : goal.returns
returns c =
    let s = c.args.s.now in
    let long = length_sanitized s in
    rw (take_all c.loop-b.b-index (sanitized s) (omega arith)) at c.loop-b.invariant
