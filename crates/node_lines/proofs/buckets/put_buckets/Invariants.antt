-- `node_lines::buckets::put_buckets` meets its contract. The loop's invariant is its state at the groups that are left. Assumes nothing.
use Rattle.node_lines.proofs.Grouping.{Bucketing}
use Rattle.node_lines.proofs.buckets.put_buckets.Given as goal

abbrev pub invariant-loop-g : goal.invariant-loop-g
invariant-loop-g l = Bucketing l.initial.w l.work l.table l.nums l.m l.w l.g-iterator
