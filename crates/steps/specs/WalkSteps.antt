-- The steps of a W line's field, as an iterator gives them. Document 01, "Reading".
use Rattle.std.specs.Prelude.{ℕ, ◌+◌, ◌-◌, ◌≤◌, ◌<◌, List, [], ◌∷◌, ◌≡◌, Option, None, Some, length}
use Rattle.gfa_spec.specs.Bytes.{part}
use Rattle.gfa_spec.specs.Reading.{Step, walk}
use Rattle.scan.specs.declared.places.Place.{Place}
use Rattle.scan.specs.Places.{bytes_in}
use Rattle.tables.specs.declared.rows.StepWords.{StepWords}
use Rattle.tables.specs.ByNumber.{step_of}
use Rattle.steps.specs.declared.walks.Walk.{Walk}

-- the steps of what stands from `at` up to `end`
unfoldable pub walk_from : List ℕ → ℕ → ℕ → List Step
walk_from text at end = (walk at (part at (end - at) text)).steps

-- the steps that are left
abbrev pub steps_left : Walk → List Step
steps_left s = walk_from s.text.now s.at s.end

-- All steps of the place are left.
pub record AllSteps (text : List ℕ) (p : Place) (s : Walk) : Type 0 where
  pub same : s.text.now ≡ text
  pub front : s.at ≡ p.start
  pub end : s.end ≡ p.start + p.size
  pub left : steps_left s ≡ (walk p.start (bytes_in text p)).steps

-- The first step that was left; the others are left now, and there are some unless its name ends at the end.
pub record FirstStep (s : Walk) (w : StepWords) (t : Walk) : Type 0 where
  pub first : steps_left s ≡ step_of s.text.now w ∷ steps_left t
  pub low : s.at < w.name.start
  pub on : t.at ≡ w.name.start + w.name.size
  pub high : t.at ≤ s.end
  pub more : t.at < s.end → 0 < length (steps_left t)

-- by the cases of the item
abbrev pub StepSays : Walk → Option StepWords → Walk → Type 0
StepSays s (Some w) t = FirstStep s w t
StepSays s None t = (steps_left s ≡ []) × (steps_left t ≡ [])

-- What the next item says: the first step that was left, or that none was.
pub record StepGiven (s : Walk) (r : Option StepWords) (t : Walk) : Type 0 where
  pub same : t.text ≡ s.text
  pub end : t.end ≡ s.end
  pub says : StepSays s r t
