-- `scan::names::last_difference` meets its contract. The loop's invariant: from `i` on the strings agree. Assumes nothing.
use Rattle.gfa_spec.specs.Bytes.{AgreeFrom}
use Rattle.scan.proofs.names.last_difference.Given as goal

abbrev pub invariant-loop-i : goal.invariant-loop-i
invariant-loop-i l = AgreeFrom l.s l.t l.i
