-- `fold::pairs::new_pairs` meets its contract. The loop's invariant is the state of the count.
use Rattle.fold.proofs.Pairing.{Summing}
use Rattle.fold.proofs.pairs.new_pairs.Given as goal

abbrev pub invariant-loop-i : goal.invariant-loop-i
invariant-loop-i l = Summing l.work l.a.n l.a.g l.a.m l.i l.nodes l.steps
