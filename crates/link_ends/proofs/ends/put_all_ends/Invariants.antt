-- `link_ends::ends::put_all_ends` meets its contract. The loop's invariant is its state at a link. Assumes nothing.
use Rattle.link_ends.specs.Relinkers.{SameLinks}
use Rattle.link_ends.proofs.Endings.{Ending}
use Rattle.link_ends.proofs.ends.put_all_ends.Given as goal

abbrev pub invariant-loop-i : goal.invariant-loop-i
invariant-loop-i l = let r = l.initial.links in SameLinks r l.links × Ending r.text.now r.work.now l.links.work.now r.a.b r.a.n r.a.g r.a.m l.removed l.i
