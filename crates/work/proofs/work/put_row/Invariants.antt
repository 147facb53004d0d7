-- `work::work::put_row` meets its contract: the invariant is that the first words are stored. Assumes nothing.
use Rattle.work.proofs.Stores.{Storing}
use Rattle.work.proofs.work.put_row.Given as goal

abbrev pub invariant-loop-i : goal.invariant-loop-i
invariant-loop-i l = Storing l.row l.initial.work l.work l.at l.i
