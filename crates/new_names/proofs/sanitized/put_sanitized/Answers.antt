use native.Mathlib.Omega.{arith}
use mathlib.Core.Path.{refl, sym, ◌∙◌}
use Rattle.writers.proofs.Writing.{turn, puts_skipped}
use Rattle.new_names.proofs.Sanitizing.{length_sanitized, get_or_sanitized}
use Rattle.new_names.proofs.sanitized.put_sanitized.Goals as goal

pub loop-i-preserved : goal.loop-i-preserved
loop-i-preserved c =
    let s = c.args.s.now in
    let long = length_sanitized s in
    turn _ _ _ _ (omega arith) c.loop-i.invariant (c.plain_byte.ensures ∙ sym (get_or_sanitized s c.loop-i.i (omega arith)))

pub returns : goal.returns
returns c =
    let long = length_sanitized c.args.s.now in
    puts_skipped {i = c.loop-i.i} refl refl refl c.loop-i.invariant (omega arith) (sym long) c.skip.ensures
