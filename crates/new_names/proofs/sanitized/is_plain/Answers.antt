use native.Mathlib.Omega.{arith}
use mathlib.Core.Path.{◌≡◌}
use Rattle.new_names.proofs.Likeness.{plain_no, plain_more, plain_yes}
use Rattle.new_names.proofs.sanitized.is_plain.Goals as goal

pub returns-then-s-i : goal.returns-then-s-i
returns-then-s-i c = plain_no _ (omega arith) c.plain_byte.ensures c.if-s-i.true

pub loop-i-preserved : goal.loop-i-preserved
loop-i-preserved c = plain_more _ (omega arith) c.plain_byte.ensures (omega arith) c.loop-i.invariant c.if-s-i.false

pub returns : goal.returns
returns c = let z : c.loop-i.i ≡ 0 = omega arith in plain_yes _ (rw z at c.loop-i.invariant)
