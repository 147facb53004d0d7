-- `sequences::repeated::put_repeated` meets its contract. The invariant: as many bytes of the repeated string as are filled stand in the buffer.
use Prim.Native.Nat.{◌-◌}
use Rattle.sequences.proofs.Repeating.{Filling}
use Rattle.sequences.proofs.repeated.put_repeated.Given as goal

abbrev pub invariant-loop-filled : goal.invariant-loop-filled
invariant-loop-filled l = Filling l.times l.s l.at l.limit l.room l.initial.out l.initial.filled l.out l.filled

abbrev pub decreases-loop-filled : goal.decreases-loop-filled
decreases-loop-filled l = l.room - l.filled
