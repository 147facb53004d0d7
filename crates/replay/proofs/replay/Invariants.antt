-- `replay::replay` is safe and ends. The invariant: there are no more cases (`t.0`) than bytes passed, and no more that differ (`t.1.0`) than cases. Assumes nothing.
use Prim.Native.Nat.{◌≤◌}
use mathlib.Core.Path.{◌≡◌}
use Rattle.replay.proofs.replay.Given as goal

abbrev pub invariant-loop-c : goal.invariant-loop-c
invariant-loop-c l = (l.c-iterator.list.now ≡ l.list) × (l.t.0 ≤ l.c-iterator.at) × (l.t.1.0 ≤ l.t.0)
