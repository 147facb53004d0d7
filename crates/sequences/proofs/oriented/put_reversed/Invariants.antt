-- `sequences::oriented::put_reversed` meets its contract. The invariant: the first i bytes of the reverse complement stand in the buffer.
use Rattle.std.proofs.Common.{take, ◌≡◌}
use Rattle.std.proofs.lemmas.List.Edits.{sets}
use Rattle.gfa_spec.specs.Sequences.{complement, reverse_complement}
use Rattle.sequences.proofs.oriented.put_reversed.Given as goal

abbrev pub invariant-loop-i : goal.invariant-loop-i
invariant-loop-i l = l.out ≡ sets l.initial.out l.at (take l.i (reverse_complement complement l.s))
