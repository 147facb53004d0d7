-- The step table. Document 01, "Reading".
use Rattle.std.specs.Prelude.{ℕ, ◌+◌, ◌≤◌, true, List, ◌≡◌, length, get_or}
use Rattle.gfa_spec.specs.Reading.{Step, is_orientation}
use Rattle.scan.specs.Places.{part_at}
use Rattle.work.specs.Rows.{rows_at}

-- the step whose row is at the word `at`: start and length of its name, and its orientation
unfoldable pub step_at : List ℕ → List ℕ → ℕ → Step
step_at text work at = record { name = part_at text (get_or work at 0) (get_or work (at + 1) 0); orientation = get_or work (at + 2) 0 }

-- the first n steps of the table at `base`
unfoldable pub steps_at : List ℕ → List ℕ → ℕ → ℕ → List Step
steps_at text work base n = rows_at (step_at text) 3 work base n

-- A step's row names a part of the text, with + or -.
pub record StepRow (text work : List ℕ) (at : ℕ) : Type 0 where
  pub name : get_or work at 0 + get_or work (at + 1) 0 ≤ length text
  pub mark : is_orientation (get_or work (at + 2) 0) ≡ true
