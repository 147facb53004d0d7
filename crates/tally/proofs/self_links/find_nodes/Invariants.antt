-- `tally::self_links::find_nodes` meets its contract. The loop's invariant is its state at a link. Assumes nothing.
use Rattle.tally.specs.Countings.{SameCounting}
use Rattle.tally.proofs.Linking.{Linking}
use Rattle.tally.proofs.self_links.find_nodes.Given as goal

abbrev pub invariant-loop-i : goal.invariant-loop-i
invariant-loop-i l = let c = l.initial.nodes in SameCounting c l.nodes × Linking c.text.now c.work.now l.nodes.work.now c.b c.n l.i l.nodes.m
