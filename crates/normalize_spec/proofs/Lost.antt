-- Lost steps: each folded run loses all its steps but one. Assumes nothing.
use Prim.Native.Nat.{◌+◌, ◌≤◌}
use native.Mathlib.Omega.{arith}
use mathlib.Core.Bool.{true}
use mathlib.Core.List.{List, [], ◌∷◌, map}
use mathlib.Core.Path.{◌≡◌, refl, sym, ◌∙◌}
use lib.Dec.{leb}
use lib.ListN.{length, length-append}
use borrow.Author.Tests.{leb-true}
use Rattle.gfa_spec.specs.Bytes.{same, any, sum, join, copies}
use Rattle.gfa_spec.specs.Reading.{Step, Segment}
use Rattle.gfa_spec.specs.Runs.{Run, runs, is_repeat}
use Rattle.gfa_spec.proofs.Tests.{by_test, and_left}
use Rattle.gfa_spec.proofs.Runs.{sum_counts}
use Rattle.normalize_spec.specs.Folding.{is_folded_run, New}
use Rattle.normalize_spec.specs.Guarantees.{loss, loss_of}
use Rattle.gfa_spec.proofs.Copies.{length_copies}
use Rattle.normalize_spec.proofs.Images.{weight, image, images}

-- a folded run has two steps or more
pub folded_count : (fs : List Segment) (r : Run) → is_folded_run fs r ≡ true → 2 ≤ r.count
unfolding is_folded_run is_repeat
folded_count fs r h = leb-true 2 r.count (and_left (leb 2 r.count) (any (λ s. same s.id r.step.name.bytes) fs) h)

-- a run keeps what it does not lose
pub weight_loss : (fs : List Segment) (r : Run) → r.count ≡ weight fs r + loss_of fs r
unfolding weight loss_of
weight_loss fs r = by_test (is_folded_run fs r) (λ e. rw e (omega (arith, folded_count fs r e))) (λ e. rw e (omega arith))

-- the counts of the runs are the steps of their images and those that they lose
runs_lost : (fs : List Segment) (new : List New) (rs : List Run) → sum (map (λ r. r.count) rs) ≡ length (images fs new rs) + sum (map (loss_of fs) rs)
unfolding images sum join
runs_lost fs new [] = refl
runs_lost fs new (r ∷ rs) =
    let here = copies (weight fs r) (image fs new r) in
    let more = images fs new rs in
    omega (arith, runs_lost fs new rs, weight_loss fs r, length-append here more, length_copies (weight fs r) (image fs new r))

-- a path's steps are those of the new path and those that were lost
pub steps_lost : (fs : List Segment) (new : List New) (steps : List Step) → length steps ≡ length (images fs new (runs steps)) + loss fs steps
unfolding loss
steps_lost fs new steps = sym (sum_counts steps) ∙ runs_lost fs new (runs steps)
