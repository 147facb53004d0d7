-- The marks of the segments. Document 01, "Folding", rules 1 and 2.
use Rattle.std.specs.Prelude.{ℕ, ◌+◌, ◌<◌, Bool, List, ◌≡◌, get_or}
use Rattle.gfa_spec.specs.Reading.{Segment}
use Rattle.gfa_spec.specs.Runs.{bit}
use Rattle.tables.specs.declared.tables.Bases.{Bases}
use Rattle.tables.specs.declared.tables.Counts.{Counts}
use Rattle.tables.specs.ByNumber.{segment_no}

-- The words from `base` on are 1 for the segments that pass the test, and 0 for the others.
pub record Marked (p : Segment → Bool) (text work : List ℕ) (b : Bases) (n : Counts) (base : ℕ) : Type 0 where
  pub mark : (i : ℕ) → i < n.segs → get_or work (base + i) 0 ≡ bit (p (segment_no text work b i))
