-- The loop that writes a line for each element of a list. Assumes nothing.
use Prim.Native.Nat.{ℕ, ◌+◌, ◌≤◌, ◌<◌}
use native.Mathlib.Numerals.{add-one}
use mathlib.Core.List.{List, map, map-append}
use lib.ListN.{length, get_or, take}
use lib.Seq.{take-suc, take_all}
use Rattle.gfa_spec.specs.Bytes.{join, end_line, ended}
use Rattle.writers.specs.declared.writer.Writer.{Writer}
use Rattle.writers.specs.Writers.{Puts}
use Rattle.writers.proofs.Writing.{as_piece, puts_nothing, ◌▷◌}
use Rattle.writers.proofs.Joining.{ended_last}

-- The state at i: the lines of the first i elements are written.
abbrev pub Numbering : {A : Type 0} → (A → List ℕ) → List A → Writer → Writer → ℕ → Type 0
Numbering line xs first now i = Puts first (ended (map line (take i xs))) now

module _ {A : Type 0} (line : A → List ℕ) (xs : List A) {first : Writer} where
  pub numbering_start : Numbering line xs first first 0
  unfolding ended join
  numbering_start = puts_nothing

  module _ {i : ℕ} {now : Writer} (w : Numbering line xs first now i) where
    pub numbering_more : {after : Writer} (none : A) → i < length xs → Puts now (end_line (line (get_or xs i none))) after → Numbering line xs first after (i + 1)
    numbering_more none h v = as_piece (rw (add-one, take-suc xs i none h, map-append, ended_last)) (w ▷ v)

    pub numbering_end : length xs ≤ i → Puts first (ended (map line xs)) now
    numbering_end h = rw (take_all i xs h) at w
