-- The fall in adjacent equal steps: images of adjacent runs differ, so only steps of one run are equal. Assumes nothing.
use Prim.Native.Nat.{ℕ, zero, suc, ◌+◌, ◌-◌, ◌≤◌}
use native.Mathlib.Omega.{arith}
use mathlib.Core.Bool.{true, false}
use mathlib.Core.List.{List, [], ◌∷◌, ◌++◌, map}
use Rattle.std.specs.Prelude.{Option, Some}
use mathlib.Core.Path.{◌≡◌, refl, sym, ap, ◌∙◌}
use lib.Dec.{eqb}
use borrow.Author.Tests.{eqb-true, eq-eqb}
use Rattle.gfa_spec.specs.Bytes.{same, any, sum, join, copies, Each}
use Rattle.gfa_spec.specs.Reading.{Step, Segment}
use Rattle.gfa_spec.specs.Runs.{Run, runs, same_step, pairs, bit}
use Rattle.gfa_spec.proofs.Tests.{by_test, clash, and_left, and_right, refute, same_refl, same_equal}
use Rattle.gfa_spec.proofs.Each.{each_both}
use Rattle.gfa_spec.proofs.Runs.{equal_steps, Separate, sep_none, sep_last, sep_next, separate_count, runs_separate, excess, pairs_excess, runs_each}
use Rattle.normalize_spec.specs.Folding.{is_folded_run, New, Made, NewStep, same_new_node, same_new_step, as_new}
use Rattle.normalize_spec.specs.Guarantees.{loss, loss_of}
use Rattle.normalize_spec.proofs.Images.{weight, id_for, image, images, HasId}
use Rattle.normalize_spec.proofs.Segments.{ids, SoundTable}
use Rattle.normalize_spec.proofs.Lookup.{new_outside, new_unit}

-- ---- equal steps of a new path

-- equal steps of a new path have one name
new_name_is : (s t : NewStep) → same_new_step s t ≡ true → s.name ≡ t.name
unfolding same_new_step same_new_node
new_name_is s t h = same_equal s.name t.name (and_left (same_new_node s t) (eqb s.orientation t.orientation) h)

-- and one orientation
new_orientation : (s t : NewStep) → same_new_step s t ≡ true → s.orientation ≡ t.orientation
unfolding same_new_step
new_orientation s t h = eqb-true s.orientation t.orientation (and_right (same_new_node s t) (eqb s.orientation t.orientation) h)

-- a step is equal to itself
new_refl : (s : NewStep) → same_new_step s s ≡ true
unfolding same_new_step same_new_node
new_refl s = rw (same_refl s.name, eq-eqb s.orientation s.orientation refl)

-- ---- images of adjacent runs

-- the step's name is a segment's
abbrev pub OnSegment : List Segment → Step → Type 0
OnSegment ss s = any (same s.name.bytes) (ids ss) ≡ true

module _ (ss fs : List Segment) (made : Made) (sound : SoundTable ss made) where
  -- a new ID is not the name of a step
  outside : (r : Run) (s : Step) → is_folded_run fs r ≡ true → HasId fs made.new r → OnSegment ss s → id_for made.new r ≡ s.name.bytes → ⊥
  outside r s f h n e = clash n (rw e at (new_outside ss made sound r.step.name.bytes r.count (id_for made.new r) (h f)))

  -- runs whose steps differ have images that differ
  image_differs : (r t : Run) → HasId fs made.new r → HasId fs made.new t → OnSegment ss r.step → OnSegment ss t.step
      → same_step r.step t.step ≡ false → same_new_step (image fs made.new r) (image fs made.new t) ≡ false
  unfolding image as_new
  image_differs r t hr ht nr nt d =
      refute (same_new_step (image fs made.new r) (image fs made.new t)) (λ q.
      let name = new_name_is (image fs made.new r) (image fs made.new t) q in
      let orientation = new_orientation (image fs made.new r) (image fs made.new t) q in
      by_test (is_folded_run fs r)
      (λ f. by_test (is_folded_run fs t)
      (λ g. clash (equal_steps r.step t.step (new_unit ss made sound r.step.name.bytes t.step.name.bytes r.count t.count (id_for made.new r) (hr f) (ht g ∙ ap {B = Option (List ℕ)} Some (sym (rw (f, g) at name)))) (rw (f, g) at orientation)) d)
      (λ g. outside r t.step f hr nt (rw (f, g) at name)))
      (λ f. by_test (is_folded_run fs t)
      (λ g. outside t r.step g ht nr (sym (rw (f, g) at name)))
      (λ g. clash (equal_steps r.step t.step (rw (f, g) at name) (rw (f, g) at orientation)) d)))

-- ---- pairs in a new path

-- copies of a step, at least one, have one pair less than they are
pairs_copies : (n : ℕ) (a : NewStep) (rest : List NewStep) → pairs same_new_step (copies (suc n) a ++ rest) ≡ n + pairs same_new_step (a ∷ rest)
unfolding copies pairs bit
pairs_copies zero a rest = omega arith
pairs_copies (suc n) a rest = rw new_refl (omega (arith, pairs_copies n a rest))

-- a step in front of copies of another makes no pair
pairs_between : (n : ℕ) (a b : NewStep) (rest : List NewStep) → same_new_step a b ≡ false
    → pairs same_new_step (a ∷ (copies (suc n) b ++ rest)) ≡ pairs same_new_step (copies (suc n) b ++ rest)
unfolding copies pairs bit
pairs_between n a b rest d = rw d (omega arith)

-- a run becomes at least one step
weight_some : (fs : List Segment) (r : Run) → 1 ≤ r.count → weight fs r ≡ suc (weight fs r - 1)
unfolding weight
weight_some fs r c = by_test (is_folded_run fs r) (λ e. rw e (omega arith)) (λ e. rw e (omega arith))

-- a run's excess steps are those of its image and those that it loses
excess_loss : (fs : List Segment) (r : Run) → 1 ≤ r.count → r.count - 1 ≡ (weight fs r - 1) + loss_of fs r
unfolding weight loss_of
excess_loss fs r c = by_test (is_folded_run fs r) (λ e. rw e (omega arith)) (λ e. rw e (omega arith))

-- the pairs of a run's image, and of the image with what follows it
pairs_image : (fs : List Segment) (new : List New) (r : Run) (rest : List NewStep) → 1 ≤ r.count
    → pairs same_new_step (copies (weight fs r) (image fs new r) ++ rest) ≡ (weight fs r - 1) + pairs same_new_step (image fs new r ∷ rest)
pairs_image fs new r rest c = ap (λ (w : ℕ). pairs same_new_step (copies w (image fs new r) ++ rest)) (weight_some fs r c) ∙ pairs_copies (weight fs r - 1) (image fs new r) rest

-- a step in front of the image of another run makes no pair
pairs_next : (fs : List Segment) (new : List New) (a : NewStep) (t : Run) (rest : List NewStep) → 1 ≤ t.count → same_new_step a (image fs new t) ≡ false
    → pairs same_new_step (a ∷ (copies (weight fs t) (image fs new t) ++ rest)) ≡ pairs same_new_step (copies (weight fs t) (image fs new t) ++ rest)
pairs_next fs new a t rest c d = rw (weight_some fs t c) (pairs_between (weight fs t - 1) a (image fs new t) rest d)

-- Where the run is folded its ID is made, and its step is named after a segment.
abbrev pub Usable : List Segment → List Segment → List New → Run → Type 0
Usable ss fs new r = HasId fs new r × OnSegment ss r.step

-- the excess steps of runs are the equal pairs of their images and the steps that they lose
runs_fall : (ss fs : List Segment) (made : Made) → SoundTable ss made → {rs : List Run} → Separate rs → Each (Usable ss fs made.new) rs
    → excess rs ≡ pairs same_new_step (images fs made.new rs) + sum (map (loss_of fs) rs)
unfolding excess images join sum pairs
runs_fall ss fs made sound sep_none u = refl
runs_fall ss fs made sound (sep_last {r} c) u =
    omega (arith, pairs_image fs made.new r [] c, excess_loss fs r c)
runs_fall ss fs made sound (sep_next {r} {t} {rs} c d h) u =
    let differs = image_differs ss fs made sound r t u.0.0 u.1.0.0 u.0.1 u.1.0.1 d in
    let rest = images fs made.new rs in
    omega (
      arith,
      pairs_image fs made.new r (images fs made.new (t ∷ rs)) c,
      excess_loss fs r c,
      pairs_next fs made.new (image fs made.new r) t rest (separate_count h) differs,
      runs_fall ss fs made sound h u.1,
    )

-- a path's equal pairs are those of the new path and the steps that were lost
pub steps_fall : (ss fs : List Segment) (made : Made) → SoundTable ss made → (steps : List Step) → Each (HasId fs made.new) (runs steps)
    → Each (OnSegment ss) steps → pairs same_step steps ≡ pairs same_new_step (images fs made.new (runs steps)) + loss fs steps
unfolding loss
steps_fall ss fs made sound steps h n =
    pairs_excess steps ∙ runs_fall ss fs made sound (runs_separate steps) (each_both (HasId fs made.new) (λ r. OnSegment ss r.step) (runs steps) h (runs_each (OnSegment ss) steps n))
