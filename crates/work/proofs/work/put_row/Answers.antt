use native.Mathlib.Omega.{arith}
use Rattle.work.proofs.Stores.{storing_start, storing_more, storing_end, storing_word}
use Rattle.work.proofs.work.put_row.Goals as goal

pub loop-i-init : goal.loop-i-init
loop-i-init c = storing_start c.requires

pub overflow_cast-work : goal.overflow_cast-work
overflow_cast-work c = omega (arith, storing_word c.loop-i.invariant c.loop-i-test.true)

pub loop-i-preserved : goal.loop-i-preserved
loop-i-preserved c = storing_more c.loop-i.invariant c.loop-i-test.true

pub returns : goal.returns
returns c = storing_end c.loop-i.invariant c.loop-i-test.false
