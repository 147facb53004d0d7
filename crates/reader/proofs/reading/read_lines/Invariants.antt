-- `reader::reading::read_lines` meets its contract. The loop's invariant is the reader's state between two lines. Assumes nothing.
use Rattle.reader.proofs.Progress.{Progress}
use Rattle.reader.proofs.reading.read_lines.Given as goal

abbrev pub invariant-loop-line : goal.invariant-loop-line
invariant-loop-line l = Progress l.text l.initial.work l.work l.b l.line-iterator l.n
