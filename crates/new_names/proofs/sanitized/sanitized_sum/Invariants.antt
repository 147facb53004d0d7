-- `new_names::sanitized::sanitized_sum` meets its contract. The loop's invariant: the sum of the first bytes, sanitized.
use mathlib.Core.Path.{◌≡◌}
use lib.ListN.{take}
use Rattle.gfa_spec.specs.Sums.{sum_from}
use Rattle.normalize_spec.specs.Folding.{sanitized}
use Rattle.new_names.proofs.sanitized.sanitized_sum.Given as goal

abbrev pub invariant-loop-b : goal.invariant-loop-b
invariant-loop-b l = l.sum ≡ sum_from l.h (take l.b-index (sanitized l.s))
