-- `new_names::sanitized::is_plain` meets its contract. The loop's invariant: from byte i on the name is itself, sanitized. Assumes nothing.
use Rattle.gfa_spec.specs.Bytes.{AgreeFrom}
use Rattle.normalize_spec.specs.Folding.{sanitized}
use Rattle.new_names.proofs.sanitized.is_plain.Given as goal

abbrev pub invariant-loop-i : goal.invariant-loop-i
invariant-loop-i l = AgreeFrom l.s (sanitized l.s) l.i
