-- Maximal runs of equal steps. Document 01, "Folding", rule 2.
use Rattle.std.specs.Prelude.{ℕ, ◌-◌, ◌≤◌, ◌<◌, List, ◌∷◌, ◌≡◌}
use Rattle.tables.specs.declared.tables.Bases.{Bases}
use Rattle.gfa_spec.specs.Runs.{runs}
use Rattle.tables.specs.ByNumber.{step_no, steps_from}

-- The steps from i to r, of those before `end`, are the first of the maximal runs from i on.
pub record RunFrom (text work : List ℕ) (b : Bases) (i end r : ℕ) : Type 0 where
  pub first : runs (steps_from text work b i end) ≡ record { step = step_no text work b i; count = r - i } ∷ runs (steps_from text work b r end)
  pub low : i < r
  pub high : r ≤ end
