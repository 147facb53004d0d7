-- What a replayed call leaves behind.
use Rattle.std.specs.Prelude.{ℕ, ◌-◌, List, get_or}
use Rattle.gfa_spec.specs.Bytes.{part}
use Rattle.cases.specs.declared.lists.Parts.{Parts}
use Rattle.cases.specs.Cases.{LeftBytes, LeftWords}

-- The two buffers hold what is recorded, and nothing else that is new: the output, and a work area of the header's length that is cleared.
pub record Left (list : List ℕ) (c : Parts) (row out work : List ℕ) : Type 0 where
  pub bytes : LeftBytes out (part c.output (c.last - c.output) list)
  pub cleared : LeftWords work (get_or row 3 0)
