-- The whole transformation, path by path. Assumes nothing.
use Prim.Native.Nat.{ℕ, ◌+◌}
use mathlib.Core.Bool.{true}
use mathlib.Core.List.{List, [], ◌++◌, map, map-map}
use mathlib.Core.Path.{◌≡◌, sym, ap, ◌∙◌}
use lib.ListN.{length, length-map}
use Rattle.gfa_spec.specs.Bytes.{join, nth, distinct, Each}
use Rattle.gfa_spec.specs.Reading.{Step, Segment, Entry}
use Rattle.gfa_spec.specs.Records.{segments, paths, sequence_of}
use Rattle.gfa_spec.specs.Runs.{runs, same_step, pairs}
use Rattle.gfa_spec.specs.Spelling.{spell}
use Rattle.gfa_spec.proofs.Known.{Known}
use Rattle.gfa_spec.proofs.Each.{each_map, nth_map, nth_each}
use Rattle.normalize_spec.specs.Folding.{folded, New, taken, NewStep, same_new_step, as_new, transform}
use Rattle.normalize_spec.specs.Services.{as_segment}
use Rattle.normalize_spec.specs.Guarantees.{steps_of, loss}
use Rattle.normalize_spec.proofs.Images.{images, HasId, transform_images, transform_has}
use Rattle.normalize_spec.proofs.Lost.{steps_lost}
use Rattle.normalize_spec.proofs.Segments.{ids, transform_sound, sound_differ}
use Rattle.normalize_spec.proofs.Fall.{OnSegment, steps_fall}
use Rattle.normalize_spec.proofs.Spelled.{sound_spells}

-- new path k
unfoldable pub new_path : List Entry → ℕ → ℕ → List NewStep
new_path es cap k = nth k (transform es cap).paths []

module _ (es : List Entry) (cap : ℕ) where
  -- the new segments
  abbrev new : List New
  new = (transform es cap).made.new

  -- there is a new path for each path
  pub as_many : length (transform es cap).paths ≡ length (paths es)
  as_many = rw transform_images (length-map (paths es) (λ p. images (folded es cap) new (runs p.steps)))

  -- new path k is the images of the runs of path k
  pub path_images : (k : ℕ) → new_path es cap k ≡ images (folded es cap) new (runs (steps_of es k))
  unfolding new_path steps_of images join runs
  path_images k =
      let f : List Step → List NewStep = λ steps. images (folded es cap) new (runs steps) in
      ap (λ (l : List (List NewStep)). nth k l []) (transform_images es cap ∙ sym (map-map f (λ p. p.steps) (paths es)))
      ∙ nth_map f k (map (λ p. p.steps) (paths es)) []

  -- the IDs of the folded runs of path k are made
  path_has : (k : ℕ) → Each (HasId (folded es cap) new) (runs (steps_of es k))
  unfolding steps_of runs
  path_has k =
      let has : List Step → Type 0 = λ steps. Each (HasId (folded es cap) new) (runs steps) in
      nth_each has k (map (λ p. p.steps) (paths es)) [] (each_map has (λ p. p.steps) (paths es) (transform_has es cap)) tt

  -- path k has lost so many steps
  pub path_lost : (k : ℕ) → length (steps_of es k) ≡ length (new_path es cap k) + loss (folded es cap) (steps_of es k)
  path_lost k = rw path_images (steps_lost (folded es cap) new (steps_of es k))

  -- and so many pairs of equal steps, if its steps are named after segments
  pub path_fall : (k : ℕ) → Each (OnSegment (segments es)) (steps_of es k)
      → pairs same_step (steps_of es k) ≡ pairs same_new_step (new_path es cap k) + loss (folded es cap) (steps_of es k)
  path_fall k n = rw path_images (steps_fall (segments es) (folded es cap) (transform es cap).made (transform_sound es cap) (steps_of es k) (path_has k) n)

  -- steps that read as new path k spell what path k spells, over segments that find what the old and new ones find
  pub path_same : (comp : ℕ → ℕ) (after : List Segment) (read : List Step) (k : ℕ)
      → ((name : List ℕ) → sequence_of after name ≡ sequence_of (segments es ++ map as_segment new) name) → map as_new read ≡ new_path es cap k
      → Each (λ s. Known (segments es) s.name.bytes) (steps_of es k) → spell comp after read ≡ spell comp (segments es) (steps_of es k)
  path_same comp after read k same_names e known =
      sound_spells comp (segments es) (folded es cap) after (transform es cap).made (transform_sound es cap) same_names (steps_of es k) read (e ∙ path_images k) (path_has k) known

  -- all IDs of the output differ, if those of the input do
  pub ids_differ : distinct (ids (segments es)) ≡ true → distinct (taken (segments es) new) ≡ true
  ids_differ h = sound_differ (segments es) (transform es cap).made (transform_sound es cap) h
