-- `writers::pieces::put_number_lines` meets its contract. The loop's invariant is its state at a line. Assumes nothing.
use Rattle.writers.specs.Pieces.{lent_line}
use Rattle.writers.proofs.NumberLines.{Numbering}
use Rattle.writers.proofs.pieces.put_number_lines.Given as goal

abbrev pub invariant-loop-name : goal.invariant-loop-name
invariant-loop-name l = Numbering lent_line l.lines l.initial.w l.w l.name-index
