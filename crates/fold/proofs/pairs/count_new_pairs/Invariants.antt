-- `fold::pairs::count_new_pairs` meets its contract. The loop's invariant is the state of the count.
use Rattle.fold.proofs.Pairing.{Pairing}
use Rattle.fold.proofs.pairs.count_new_pairs.Given as goal

abbrev pub invariant-loop-k : goal.invariant-loop-k
invariant-loop-k l = Pairing l.work l.a.n l.a.g l.a.m l.fn.among.first l.fn.among.end l.k l.nodes l.steps
