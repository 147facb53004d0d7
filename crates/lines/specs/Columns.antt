-- The columns of a line.
use Rattle.std.specs.Prelude.{ℕ, ◌+◌, ◌≤◌, ◌<◌, List, length}
use Rattle.gfa_spec.specs.Reading.{fields}
use Rattle.scan.specs.Places.{part_at}

-- The line is in the text, and has more than k fields.
pub record HasColumn (text : List ℕ) (start size k : ℕ) : Type 0 where
  pub inside : start + size ≤ length text
  pub more : k < length (fields (part_at text start size))
