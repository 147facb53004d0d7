use Rattle.std.proofs.Common.{arith, ◌≡◌}
use Rattle.scan.proofs.SameNames.{back_start, back_stop, back_more, back_end}
use Rattle.scan.proofs.names.last_difference.Goals as goal

pub loop-i-init : goal.loop-i-init
loop-i-init c = back_start c.requires

pub returns-then-s-i : goal.returns-then-s-i
returns-then-s-i c = back_stop c.requires c.loop-i-test.true c.loop-i.auto.i c.loop-i.invariant c.if-s-i.true

pub loop-i-preserved : goal.loop-i-preserved
loop-i-preserved c = back_more c.requires c.loop-i-test.true c.loop-i.auto.i c.loop-i.invariant c.if-s-i.false

pub returns : goal.returns
returns c = let z : c.loop-i.i ≡ 0 = omega arith in back_end c.requires (rw z at c.loop-i.invariant)
