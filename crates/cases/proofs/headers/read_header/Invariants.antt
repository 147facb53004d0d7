-- `cases::headers::read_header` is safe and ends. The invariant: the words left stand in the list. Assumes nothing.
use Prim.Native.Nat.{◌≤◌}
use mathlib.Core.Path.{◌≡◌}
use lib.ListN.{length}
use Rattle.std.specs.Iterator.Adapters.{zip_second}
use Rattle.cases.proofs.headers.read_header.Given as goal

abbrev pub invariant-loop-word : goal.invariant-loop-word
invariant-loop-word l =
    (goal.iterator-loop-word).can_next l.word-iterator
    × (goal.iterator-loop-word).is_finite l.word-iterator
    × ((zip_second l.word-iterator).text.now ≡ l.list)
    × ((zip_second l.word-iterator).end ≤ length l.list)
