-- `slots::sums::sum_from` meets its contract. The loop's invariant: the sum of the first bytes.
use mathlib.Core.Path.{◌≡◌}
use lib.ListN.{take}
use Rattle.gfa_spec.specs.Sums.{sum_from}
use Rattle.slots.proofs.sums.sum_from.Given as goal

abbrev pub invariant-loop-b : goal.invariant-loop-b
invariant-loop-b l = l.sum ≡ sum_from l.h (take l.b-index l.s)
