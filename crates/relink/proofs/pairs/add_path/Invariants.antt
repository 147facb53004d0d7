-- `relink::pairs::add_path` meets its contract. The loop's invariant is its state at a new step. Assumes nothing.
use Prim.Native.Nat.{◌-◌}
use Rattle.relink.specs.Adders.{SameGraph}
use Rattle.relink.proofs.Adding.{Pairing}
use Rattle.relink.proofs.pairs.add_path.Given as goal

abbrev pub invariant-loop-k : goal.invariant-loop-k
invariant-loop-k l =
    let r = l.initial.adder in SameGraph r l.adder × Pairing r.text.now r.work.now l.adder.work.now r.a.b r.a.n r.a.g r.a.m r.tally l.fn.steps.first l.fn.steps.end l.adder.tally (l.k - 1)
