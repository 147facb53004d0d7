-- A looser cap folds no fewer segments, and leaves no more steps. Assumes nothing.
use Prim.Native.Nat.{ℕ, ◌≤◌}
use native.Mathlib.Omega.{arith}
use mathlib.Core.Bool.{Bool, true, not, ◌&&◌, false≢true}
use mathlib.Core.List.{List, [], ◌∷◌, map}
use mathlib.Core.Path.{◌≡◌}
use lib.Dec.{eqb}
use lib.ListN.{length}
use borrow.Author.Tests.{leb-true, le-leb}
use Rattle.gfa_spec.specs.Bytes.{same, star, is_empty, any, keep, sum}
use Rattle.gfa_spec.specs.Reading.{Step, Segment, Entry}
use Rattle.gfa_spec.specs.Records.{segments, links, paths}
use Rattle.gfa_spec.specs.Runs.{Run, runs, is_repeat}
use Rattle.gfa_spec.proofs.Tests.{by_test, and_left, and_right, and_both, any_implies, any_keep}
use Rattle.normalize_spec.specs.Folding.{self_linked, within, is_unit, eligible, repeats_on, is_folded, folded, is_folded_run}
use Rattle.normalize_spec.specs.Guarantees.{looser, loss, loss_of}

module _ (c d : ℕ) (loose : looser c d ≡ true) where
  -- what is within the cap is within the looser cap
  within_looser : (n : ℕ) → within c n ≡ true → within d n ≡ true
  unfolding within looser
  within_looser n h =
      by_test (eqb d 0) (λ e. rw e) (λ e. rw e
      (let both = rw e at loose in
      by_test (eqb c 0)
      (λ f. absurd (false≢true (rw f at both)))
      (λ f. le-leb n d (omega (arith, leb-true n c (rw f at h), leb-true c d (rw f at both))))))

  -- a unit under the cap is one under the looser cap
  unit_looser : (seq : List ℕ) → is_unit c seq ≡ true → is_unit d seq ≡ true
  unfolding is_unit
  unit_looser seq h =
      and_both (not (same seq star) && not (is_empty seq)) (within d (length seq))
      (and_left (not (same seq star) && not (is_empty seq)) (within c (length seq)) h)
      (within_looser (length seq) (and_right (not (same seq star) && not (is_empty seq)) (within c (length seq)) h))

  module _ (es : List Entry) where
    -- what is eligible is eligible under the looser cap
    eligible_looser : (s : Segment) → eligible es c s ≡ true → eligible es d s ≡ true
    unfolding eligible
    eligible_looser s h =
        and_both (self_linked (links es) s.id) (is_unit d s.sequence)
        (and_left (self_linked (links es) s.id) (is_unit c s.sequence) h)
        (unit_looser s.sequence (and_right (self_linked (links es) s.id) (is_unit c s.sequence) h))

    -- what is folded is folded under a looser cap
    pub folded_looser : (s : Segment) → is_folded es c s ≡ true → is_folded es d s ≡ true
    unfolding is_folded
    folded_looser s h =
        and_both (eligible es d s) (any (repeats_on s.id) (paths es))
        (eligible_looser s (and_left (eligible es c s) (any (repeats_on s.id) (paths es)) h))
        (and_right (eligible es c s) (any (repeats_on s.id) (paths es)) h)

    -- a run that is folded is folded under a looser cap
    run_looser : (r : Run) → is_folded_run (folded es c) r ≡ true → is_folded_run (folded es d) r ≡ true
    unfolding is_folded_run folded
    run_looser r h =
        let named : Segment → Bool = λ s. same s.id r.step.name.bytes in
        let some-c = rw (any_keep named (is_folded es c) (segments es)) at (and_right (is_repeat r) (any named (keep (is_folded es c) (segments es))) h) in
        and_both (is_repeat r) (any named (keep (is_folded es d) (segments es)))
        (and_left (is_repeat r) (any named (keep (is_folded es c) (segments es))) h)
        (rw (any_keep named (is_folded es d) (segments es))
        (any_implies (λ s. is_folded es c s && named s) (λ s. is_folded es d s && named s)
        (λ s q. and_both (is_folded es d s) (named s) (folded_looser s (and_left (is_folded es c s) (named s) q)) (and_right (is_folded es c s) (named s) q))
        (segments es) some-c))

    -- runs lose no fewer steps under the looser cap
    runs_looser : (rs : List Run) → sum (map (loss_of (folded es c)) rs) ≤ sum (map (loss_of (folded es d)) rs)
    unfolding sum loss_of
    runs_looser [] = omega arith
    runs_looser (r ∷ rs) =
        let more = runs_looser rs in
        by_test (is_folded_run (folded es c) r)
        (λ e. rw (e, run_looser r e) (omega arith))
        (λ e. rw e (omega arith))

    -- a looser cap loses no fewer steps
    pub loss_looser : (steps : List Step) → loss (folded es c) steps ≤ loss (folded es d) steps
    unfolding loss
    loss_looser steps = runs_looser (runs steps)
