-- `new_names::sanitized::put_sanitized` meets its contract. The invariant: the first i bytes of the sanitized name stand in the buffer.
use mathlib.Core.Path.{◌≡◌}
use lib.ListN.{take}
use lib.Seq.{sets}
use Rattle.normalize_spec.specs.Folding.{sanitized}
use Rattle.new_names.proofs.sanitized.put_sanitized.Given as goal

abbrev pub invariant-loop-i : goal.invariant-loop-i
invariant-loop-i l = l.out ≡ sets l.initial.out l.at (take l.i (sanitized l.s))
