-- `tally::visits::count_paths` meets its contract. The loop's invariant is its state at a path. Assumes nothing.
use mathlib.Core.Path.{◌≡◌}
use Rattle.tally.specs.Countings.{SameCounting}
use Rattle.tally.proofs.Passing.{Passing}
use Rattle.tally.proofs.visits.count_paths.Given as goal

abbrev pub invariant-loop-p : goal.invariant-loop-p
invariant-loop-p l = let c = l.initial.nodes in SameCounting c l.nodes × (l.nodes.m ≡ c.m) × Passing c.text.now c.work.now l.nodes.work.now c.b c.n c.m l.p
