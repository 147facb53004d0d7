use Rattle.std.proofs.Common.{arith, ◌≡◌}
use Rattle.scan.proofs.Finding.{finding_start, finding_hit, finding_more, finding_end}
use Rattle.scan.proofs.places.find.Goals as goal

pub loop-i-init : goal.loop-i-init
loop-i-init c = finding_start c.requires

pub returns-then-text-i : goal.returns-then-text-i
returns-then-text-i c = finding_hit c.loop-i.invariant c.loop-i-test.true c.if-text-i.true

pub loop-i-preserved : goal.loop-i-preserved
loop-i-preserved c = finding_more c.loop-i.invariant c.loop-i-test.true c.if-text-i.false

pub returns : goal.returns
returns c = let e : c.loop-i.i ≡ c.args.to = omega arith in rw e at (finding_end c.loop-i.invariant c.loop-i-test.false)
