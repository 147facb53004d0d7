-- `sequences::repeated::copy_on` meets its contract. The invariant: the first i bytes stand at the new place, and all else is as it was.
use mathlib.Core.Path.{◌≡◌}
use lib.ListN.{take}
use lib.Seq.{sets}
use Rattle.gfa_spec.specs.Bytes.{part}
use Rattle.sequences.proofs.repeated.copy_on.Given as goal

abbrev pub invariant-loop-i : goal.invariant-loop-i
invariant-loop-i l = l.out ≡ sets l.initial.out l.to (take l.i (part l.from l.n l.initial.out))
