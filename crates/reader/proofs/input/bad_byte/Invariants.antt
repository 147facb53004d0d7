-- `reader::input::bad_byte` meets its contract. The loop's invariant is the search's state. Assumes nothing.
use Rattle.reader.proofs.BadBytes.{Searching}
use Rattle.reader.proofs.input.bad_byte.Given as goal

abbrev pub invariant-loop-i : goal.invariant-loop-i
invariant-loop-i l = Searching l.text l.i
