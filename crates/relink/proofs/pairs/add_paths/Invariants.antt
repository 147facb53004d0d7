-- `relink::pairs::add_paths` meets its contract. The loop's invariant is its state at a path. Assumes nothing.
use Rattle.relink.specs.Adders.{SameGraph}
use Rattle.relink.proofs.Adding.{Passing}
use Rattle.relink.proofs.pairs.add_paths.Given as goal

abbrev pub invariant-loop-p : goal.invariant-loop-p
invariant-loop-p l =
    let r = l.initial.adder in SameGraph r l.adder × Passing r.text.now r.work.now l.adder.work.now r.a.b r.a.n r.a.g r.a.m l.adder.tally l.p
