-- `cases::lists::skip` meets its contract. The invariant: the lines left stand behind the place, and go up to the list's end. Assumes nothing.
use Prim.Native.Nat.{◌≤◌}
use mathlib.Core.Path.{◌≡◌}
use lib.ListN.{length}
use Rattle.cases.proofs.lists.skip.Given as goal

abbrev pub invariant-loop-line : goal.invariant-loop-line
invariant-loop-line l = (l.from ≤ l.line-iterator.at) × (l.line-iterator.end ≡ length l.list)
