-- `node_lines::buckets::group_at` meets its contract. The loop's invariant is its state at a number. Assumes nothing.
use Rattle.node_lines.proofs.Grouping.{Grouping}
use Rattle.node_lines.proofs.buckets.group_at.Given as goal

abbrev pub invariant-loop-j : goal.invariant-loop-j
invariant-loop-j l = Grouping l.work l.table l.nums l.m l.i l.long l.links l.j
