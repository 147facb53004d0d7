-- The runs of a step list, written out again. Assumes nothing.
use mathlib.Core.Bool.{true}
use mathlib.Core.List.{List, [], ◌∷◌, map}
use mathlib.Core.Path.{◌≡◌, refl, ap, ◌∙◌}
use Rattle.gfa_spec.specs.Bytes.{join, copies}
use Rattle.gfa_spec.specs.Reading.{Step}
use Rattle.gfa_spec.specs.Runs.{Run, runs, extend, same_step}
use Rattle.gfa_spec.proofs.Tests.{by_test}
use Rattle.gfa_spec.proofs.Runs.{same_name, same_orientation}
use Rattle.normalize_spec.specs.Folding.{NewStep, as_new}

-- runs, written out as steps of a new path
unfoldable pub expand : List Run → List NewStep
expand rs = join (map (λ r. copies r.count (as_new r.step)) rs)

-- steps that are equal are one step of a new path
pub same_as_new : (s t : Step) → same_step s t ≡ true → as_new s ≡ as_new t
unfolding as_new
same_as_new s t h = cc (same_name s t h, same_orientation s t h)

-- a step in front of runs is written in front of them
expand_extend : (s : Step) (rs : List Run) → expand (extend s rs) ≡ as_new s ∷ expand rs
unfolding expand extend join copies
expand_extend s [] = refl
expand_extend s (r ∷ rs) = by_test (same_step s r.step) (λ e. rw (e, same_as_new s r.step e)) (λ e. rw e)

-- the runs of a step list, written out, are its steps
pub expand_runs : (steps : List Step) → expand (runs steps) ≡ map as_new steps
unfolding runs
expand_runs [] = unfold expand join in refl
expand_runs (s ∷ steps) = expand_extend s (runs steps) ∙ ap (λ l. as_new s ∷ l) (expand_runs steps)
