use native.Mathlib.Omega.{arith}
use mathlib.Core.Path.{refl, ◌∙◌}
use Rattle.writers.proofs.Writing.{turn, sets_room}
use Rattle.writers.proofs.writer.store.Goals as goal

pub loop-i-preserved : goal.loop-i-preserved
loop-i-preserved c = turn _ _ _ _ (omega arith) c.loop-i.invariant refl

pub returns : goal.returns
returns c = c.loop-i.invariant ∙ sets_room c.args.out.now c.args.s.now c.args.at c.loop-i.i (omega arith)
