-- `new_ids::ids::first_number` meets its contract. The loop's invariant is the state of the search for the largest ID.
use Rattle.new_ids.proofs.Largest.{Growing}
use Rattle.new_ids.proofs.ids.first_number.Given as goal

abbrev pub invariant-loop-i : goal.invariant-loop-i
invariant-loop-i l = Growing l.graph.text.now l.graph.work.now l.graph.b l.graph.n l.largest l.i
