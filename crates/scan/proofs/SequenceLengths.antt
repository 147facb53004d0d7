-- The length of a sequence, `*` or not. Assumes nothing.
use Prim.Native.Nat.{ℕ}
use mathlib.Core.Bool.{true, false}
use mathlib.Core.List.{List}
use mathlib.Core.Path.{◌≡◌}
use lib.ListN.{length}
use Rattle.gfa_spec.specs.Bytes.{same, star}
use Rattle.gfa_spec.specs.Sequences.{sequence_len}

-- a sequence that is `*` has length 0
pub length_of_star : (seq : List ℕ) → same seq star ≡ true → 0 ≡ sequence_len seq
unfolding sequence_len
length_of_star seq e = rw e

-- any other has its own
pub length_of_other : (seq : List ℕ) → same seq star ≡ false → length seq ≡ sequence_len seq
unfolding sequence_len
length_of_other seq e = rw e
