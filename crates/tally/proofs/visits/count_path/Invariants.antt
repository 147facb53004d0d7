-- `tally::visits::count_path` meets its contract. The loop's invariant is its state at a step. Assumes nothing.
use Prim.Native.Nat.{◌-◌}
use mathlib.Core.Path.{◌≡◌}
use Rattle.tally.specs.Countings.{SameCounting}
use Rattle.tally.proofs.Passing.{Running}
use Rattle.tally.proofs.visits.count_path.Given as goal

abbrev pub invariant-loop-i : goal.invariant-loop-i
invariant-loop-i l = let c = l.initial.nodes in SameCounting c l.nodes × (l.nodes.m ≡ c.m) × Running c.text.now c.work.now l.nodes.work.now c.b c.n c.m l.fn.steps.first l.fn.steps.end l.path.0 l.i

abbrev pub decreases-loop-i : goal.decreases-loop-i
decreases-loop-i l = l.fn.steps.end - l.i
