-- `scan::places::find` meets its contract. The loop's invariant is the search's state. Assumes nothing.
use Rattle.scan.proofs.Finding.{Finding}
use Rattle.scan.proofs.places.find.Given as goal

abbrev pub invariant-loop-i : goal.invariant-loop-i
invariant-loop-i l = Finding l.text l.byte l.from l.to l.i
