-- Laws of runs: their counts, and that adjacent runs differ. Assumes nothing.
use Prim.Native.Nat.{ℕ, suc, ◌+◌, ◌-◌, ◌≤◌, zero-le, suc-le-suc}
use native.Mathlib.Omega.{arith}
use mathlib.Core.Bool.{Bool, true, false}
use mathlib.Core.List.{List, [], ◌∷◌, ◌++◌, map}
use mathlib.Core.Path.{◌≡◌, refl, sym, ap, ◌∙◌}
use lib.Dec.{eqb}
use lib.ListN.{length}
use borrow.Author.Tests.{eqb-true, eq-eqb}
use Rattle.gfa_spec.specs.Bytes.{same, sum, Each}
use Rattle.gfa_spec.specs.Reading.{Step, Entry}
use Rattle.gfa_spec.specs.Records.{paths}
use Rattle.gfa_spec.specs.Runs.{Run, runs, extend, same_node, same_step, pairs, bit, over_paths, step_count}
use Rattle.gfa_spec.proofs.Tests.{by_test, and_left, and_right, and_both, same_equal, equal_same}
use Rattle.gfa_spec.proofs.Each.{each_implies}
use Rattle.gfa_spec.proofs.Sorts.{append_sorted}

-- ---- equal steps

-- equal steps have one name
pub same_name : (s t : Step) → same_step s t ≡ true → s.name.bytes ≡ t.name.bytes
unfolding same_step same_node
same_name s t h = same_equal s.name.bytes t.name.bytes (and_left (same_node s t) (eqb s.orientation t.orientation) h)

-- and one orientation
pub same_orientation : (s t : Step) → same_step s t ≡ true → s.orientation ≡ t.orientation
unfolding same_step
same_orientation s t h = eqb-true s.orientation t.orientation (and_right (same_node s t) (eqb s.orientation t.orientation) h)

-- steps of one name and one orientation are equal
pub equal_steps : (s t : Step) → s.name.bytes ≡ t.name.bytes → s.orientation ≡ t.orientation → same_step s t ≡ true
unfolding same_step same_node
equal_steps s t p q = and_both (same s.name.bytes t.name.bytes) (eqb s.orientation t.orientation) (equal_same s.name.bytes t.name.bytes p) (eq-eqb s.orientation t.orientation q)

-- equal steps are equal to the same steps
pub same_as : (s t u : Step) → same_step s t ≡ true → same_step s u ≡ same_step t u
unfolding same_step same_node
same_as s t u h = rw (same_name s t h, same_orientation s t h)

-- ---- what a step does to the runs behind it

-- one more step adds one to the counts
extend_counts : (s : Step) (rs : List Run) → sum (map (λ r. r.count) (extend s rs)) ≡ suc (sum (map (λ r. r.count) rs))
unfolding extend sum
extend_counts s [] = omega arith
extend_counts s (r ∷ rs) = by_test (same_step s r.step) (λ e. rw e (omega arith)) (λ e. rw e (omega arith))

-- the counts of the runs add up to the steps
pub sum_counts : (steps : List Step) → sum (map (λ r. r.count) (runs steps)) ≡ length steps
unfolding runs sum
sum_counts [] = refl
sum_counts (s ∷ steps) = extend_counts s (runs steps) ∙ ap suc (sum_counts steps)

-- Runs as a step list has them: each has a step, and two that are adjacent differ.
pub data Separate : List Run → Type 0 where
  sep_none : Separate []
  sep_last : {r : Run} → 1 ≤ r.count → Separate (r ∷ [])
  sep_next : {r t : Run} {rs : List Run} → 1 ≤ r.count → same_step r.step t.step ≡ false → Separate (t ∷ rs) → Separate (r ∷ (t ∷ rs))

-- the first run has a step
pub separate_count : {r : Run} {rs : List Run} → Separate (r ∷ rs) → 1 ≤ r.count
separate_count (sep_last c) = c
separate_count (sep_next c d h) = c

-- a step in front keeps the runs separate
extend_separate : (s : Step) (rs : List Run) → Separate rs → Separate (extend s rs)
unfolding extend
extend_separate s [] sep_none = sep_last (suc-le-suc zero-le)
extend_separate s (r ∷ []) (sep_last c) = by_test (same_step s r.step) (λ e. rw e (sep_last (suc-le-suc zero-le))) (λ e. rw e (sep_next (suc-le-suc zero-le) e (sep_last c)))
extend_separate s (r ∷ (t ∷ rs)) (sep_next c d h) =
    by_test (same_step s r.step)
    (λ e. rw e (sep_next (suc-le-suc zero-le) (same_as s r.step t.step e ∙ d) h))
    (λ e. rw e (sep_next (suc-le-suc zero-le) e (sep_next c d h)))

-- the runs of a step list are separate
pub runs_separate : (steps : List Step) → Separate (runs steps)
unfolding runs
runs_separate [] = sep_none
runs_separate (s ∷ steps) = extend_separate s (runs steps) (runs_separate steps)

-- ---- pairs

-- fewer than two elements have no pair
pub pairs_none : {A : Type 0} (p : A → A → Bool) (xs : List A) → length xs ≤ 1 → pairs p xs ≡ 0
unfolding pairs
pairs_none p [] h = refl
pairs_none p (x ∷ []) h = refl
pairs_none p (x ∷ (y ∷ xs)) h = absurd (omega arith)

-- an element before others
pub pairs_cons : {A : Type 0} (p : A → A → Bool) (s t : A) (ts : List A) → pairs p (s ∷ (t ∷ ts)) ≡ bit (p s t) + pairs p (t ∷ ts)
unfolding pairs
pairs_cons p s t ts = refl

-- ---- pairs of equal steps

-- the steps of the runs behind their first ones
unfoldable pub excess : List Run → ℕ
excess rs = sum (map (λ r. r.count - 1) rs)

-- the first run begins with the first step
pub extend_first : (s : Step) (rs : List Run) → (n : ℕ) × (more : List Run) × (extend s rs ≡ record { step = s; count = suc n } ∷ more)
unfolding extend
extend_first s [] = (0, [], refl)
extend_first s (r ∷ rs) = by_test (same_step s r.step) (λ e. (r.count, rs, rw e)) (λ e. (0, r ∷ rs, rw e))

-- a step in front of a run has one excess step where it is equal
extend_excess : (s t : Step) (n : ℕ) (rs : List Run)
    → excess (extend s (record { step = t; count = suc n } ∷ rs)) ≡ bit (same_step s t) + excess (record { step = t; count = suc n } ∷ rs)
unfolding excess extend sum bit
extend_excess s t n rs = by_test (same_step s t) (λ e. rw e (omega arith)) (λ e. rw e (omega arith))

-- pairs of equal steps are the excess steps of the runs
pub pairs_excess : (steps : List Step) → pairs same_step steps ≡ excess (runs steps)
unfolding pairs runs
pairs_excess [] = unfold excess sum in refl
pairs_excess (s ∷ []) = unfold excess sum extend in refl
pairs_excess (s ∷ (t ∷ steps)) =
    let (n, more, e) = extend_first t (runs steps) in
    rw (e, extend_excess, ← e, pairs_excess (t ∷ steps))

-- ---- steps and runs

-- what a step and the runs behind it have, the runs with it have
extend_each : (P : Step → Type 0) (s : Step) (rs : List Run) → P s → Each (λ r. P r.step) rs → Each (λ r. P r.step) (extend s rs)
unfolding extend
extend_each P s [] p h = (p, tt)
extend_each P s (r ∷ rs) p h = by_test (same_step s r.step) (λ e. rw e (p, h.1)) (λ e. rw e (p, h))

-- what each step has, the step of each run has
pub runs_each : (P : Step → Type 0) (steps : List Step) → Each P steps → Each (λ r. P r.step) (runs steps)
unfolding runs
runs_each P [] h = tt
runs_each P (s ∷ steps) h = extend_each P s (runs steps) h.0 (runs_each P steps h.1)

-- ---- the runs of a list, from the left

-- the list is empty, or its first step differs from s
abbrev pub Differs : Step → List Step → Type 0
Differs s [] = Unit {0}
Differs s (t ∷ ts) = same_step s t ≡ false

-- a step that differs from the next is a run of its own
run_alone : (s : Step) (ys : List Step) → Differs s ys → runs (s ∷ ys) ≡ record { step = s; count = 1 } ∷ runs ys
unfolding runs
run_alone s [] d = unfold extend in refl
run_alone s (t ∷ ys) d = let (n, more, e) = extend_first t (runs ys) in rw e (unfold extend in rw d)

-- Equal steps, as far as they go, are the first run, and the runs behind it are those of the rest.
pub runs_cut : (s : Step) (xs ys : List Step) → Each (λ x. same_step s x ≡ true) xs → Differs s ys
    → runs (s ∷ (xs ++ ys)) ≡ record { step = s; count = suc (length xs) } ∷ runs ys
unfolding runs extend
runs_cut s [] ys h d = run_alone s ys d
runs_cut s (x ∷ xs) ys h d =
    let rest = runs_cut x xs ys (each_implies (λ y e. sym (same_as s x y h.0) ∙ e) xs h.1) (differs ys d) in
    ap (extend s) rest ∙ rw h.0
  where
    differs : (ys : List Step) → Differs s ys → Differs x ys
    differs [] d = tt
    differs (t ∷ ys) d = sym (same_as s x t h.0) ∙ d

-- ---- sums over paths

-- a sum over two lists in a row
pub sum_append : {A : Type 0} (f : A → ℕ) (xs ys : List A) → sum (map f (xs ++ ys)) ≡ sum (map f xs) + sum (map f ys)
unfolding sum
sum_append f [] ys = omega arith
sum_append f (x ∷ xs) ys = omega (arith, sum_append f xs ys)

-- the steps of two lists of entries in a row
pub steps_append : (es fs : List Entry) → step_count (es ++ fs) ≡ step_count es + step_count fs
unfolding step_count over_paths
steps_append es fs = rw (append_sorted es fs).of_paths (sum_append (λ p. length p.steps) (paths es) (paths fs))
