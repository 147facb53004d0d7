-- `reader::counting::count_text` meets its contract. The loop's invariant is the state of the counting pass. Assumes nothing.
use Rattle.reader.proofs.Tallying.{Counting}
use Rattle.reader.proofs.counting.count_text.Given as goal

abbrev pub invariant-loop-line : goal.invariant-loop-line
invariant-loop-line l = Counting l.text l.line-iterator l.n
