-- A new path is a function of its runs and of the new segments at the end: each run becomes copies of one step, its image. Assumes nothing.
use Prim.Native.Nat.{ℕ}
use native.Mathlib.Omega.{arith}
use mathlib.Core.Bool.{true, cond, ◌&&◌}
use mathlib.Core.List.{List, [], ◌∷◌, ◌++◌, map}
use Rattle.std.specs.Prelude.{Option, None, Some}
use mathlib.Core.Path.{◌≡◌, refl, sym, ap, ◌∙◌}
use lib.Dec.{eqb}
use borrow.Author.Tests.{eq-eqb}
use Rattle.gfa_spec.specs.Bytes.{same, join, copies, Each}
use Rattle.gfa_spec.specs.Reading.{Segment, Path, Entry}
use Rattle.gfa_spec.specs.Records.{segments, paths}
use Rattle.gfa_spec.specs.Runs.{Run, runs}
use Rattle.gfa_spec.proofs.Tests.{by_test, same_refl}
use Rattle.gfa_spec.proofs.Each.{each_append}
use Rattle.gfa_spec.proofs.Copies.{each_copies}
use Rattle.normalize_spec.specs.Folding.{folded, is_folded_run, New, Made, made_for, new_segment, make_segment, NewStep, as_new, onto, fold_run, keep_run, transform_runs, transform_paths, none_made, transform, turn}

-- ---- the table of new segments

-- an ID that was made is found among more segments
pub made_append : (unit : List ℕ) (count : ℕ) (new more : List New) (id : List ℕ) → made_for unit count new ≡ Some id → made_for unit count (new ++ more) ≡ Some id
unfolding made_for
made_append unit count [] more id h = let z : ◌≡◌ {A = ℕ} 0 1 = cc in absurd (omega arith)
made_append unit count (n ∷ new) more id h =
    by_test (same n.unit unit && eqb n.count count)
    (λ e. rw e (rw e at h))
    (λ e. rw e (made_append unit count new more id (rw e at h)))

-- an ID that is made is found
made_last : (new : List New) (n : New) → made_for n.unit n.count new ≡ None → made_for n.unit n.count (new ++ (n ∷ [])) ≡ Some n.id
unfolding made_for
made_last [] n h = rw (same_refl, eq-eqb n.count n.count refl)
made_last (m ∷ new) n h =
    by_test (same m.unit n.unit && eqb m.count n.count)
    (λ e. let z : ◌≡◌ {A = ℕ} 0 1 = cc (rw e at h) in absurd (omega arith))
    (λ e. rw e (made_last new n (rw e at h)))

-- what is found in the first table is found in the second
abbrev pub Extends : List New → List New → Type 0
Extends new more = (unit : List ℕ) (count : ℕ) (id : List ℕ) → made_for unit count new ≡ Some id → made_for unit count more ≡ Some id

-- A folded run: its ID, which the table then has.
record Found (ss : List Segment) (r : Run) (made : Made) : Type 0 where
  id : List ℕ
  found : made_for r.step.name.bytes r.count (fold_run ss r made).made.new ≡ Some id
  steps : (fold_run ss r made).steps ≡ record { name = id; orientation = r.step.orientation } ∷ []
  grown : Extends made.new (fold_run ss r made).made.new

-- folding a run finds its ID or makes it
fold_cases : (ss : List Segment) (r : Run) (made : Made) (o : Option (List ℕ)) → made_for r.step.name.bytes r.count made.new ≡ o → Found ss r made
unfolding fold_run onto make_segment new_segment
fold_cases ss r made (Some x) e = record { id = x; found = rw (e, fold_run) e; steps = rw (e, fold_run); grown = λ u c i h. rw (e, fold_run) h }
fold_cases ss r made None e =
    let n = new_segment ss r made in
    record {
      id = n.id;
      found = rw (e, fold_run) (made_last made.new n e);
      steps = rw (e, fold_run);
      grown = λ u c i h. rw (e, fold_run) (made_append u c made.new (n ∷ []) i h);
    }

-- a folded run has its ID
found_fold : (ss : List Segment) (r : Run) (made : Made) → Found ss r made
found_fold ss r made = fold_cases ss r made (made_for r.step.name.bytes r.count made.new) refl

-- what a run becomes: so many copies of one step
unfoldable pub weight : List Segment → Run → ℕ
weight fs r = cond (is_folded_run fs r) 1 r.count

-- the ID made for a run; empty where there is none
unfoldable pub id_for : List New → Run → List ℕ
id_for new r = elim (made_for r.step.name.bytes r.count new) as (λ _. List ℕ) [ None ↦ [] | Some id ↦ id ]

-- the step that a run becomes
unfoldable pub image : List Segment → List New → Run → NewStep
image fs new r = cond (is_folded_run fs r) (record { name = id_for new r; orientation = r.step.orientation }) (as_new r.step)

-- the steps that runs become
unfoldable pub images : List Segment → List New → List Run → List NewStep
images fs new rs = join (map (λ r. copies (weight fs r) (image fs new r)) rs)

-- the ID that is found is the run's
found_id : (new : List New) (r : Run) (id : List ℕ) → made_for r.step.name.bytes r.count new ≡ Some id → id_for new r ≡ id
unfolding id_for
found_id new r id e = rw (e, id_for)

-- what each run's image has, each step has
pub images_each : (P : NewStep → Type 0) (fs : List Segment) (new : List New) (rs : List Run) → Each (λ r. P (image fs new r)) rs → Each P (images fs new rs)
unfolding images join
images_each P fs new [] h = tt
images_each P fs new (r ∷ rs) h =
    each_append P (copies (weight fs r) (image fs new r)) (images fs new rs) (each_copies P (weight fs r) (image fs new r) h.0) (images_each P fs new rs h.1)

-- ---- the runs of a path

-- a run only adds new segments
turn_grow : (ss fs : List Segment) (r : Run) (made : Made) → Extends made.new (turn ss fs r made).made.new
unfolding turn keep_run
turn_grow ss fs r made u c id h = by_test (is_folded_run fs r) (λ e. rw e ((found_fold ss r made).grown u c id h)) (λ e. rw e h)

-- a run becomes copies of its image
turn_image : (ss fs : List Segment) (r : Run) (made : Made) (new : List New) → Extends (turn ss fs r made).made.new new
    → (turn ss fs r made).steps ≡ copies (weight fs r) (image fs new r)
unfolding turn keep_run weight image
turn_image ss fs r made new w =
    by_test (is_folded_run fs r)
    (λ e. let f = found_fold ss r made in
    let i = found_id new r f.id (rw e at w r.step.name.bytes r.count f.id f.found) in
    rw (e, f.steps, i) (unfold copies in refl))
    (λ e. rw e)

-- the new segments only become more
pub runs_grow : (ss fs : List Segment) (rs : List Run) (made : Made) → Extends made.new (transform_runs ss fs rs made).made.new
unfolding transform_runs
runs_grow ss fs [] made u c id h = h
runs_grow ss fs (r ∷ rs) made u c id h = runs_grow ss fs rs (turn ss fs r made).made u c id (turn_grow ss fs r made u c id h)

-- the runs of a path become their images
pub runs_images : (ss fs : List Segment) (rs : List Run) (made : Made) (new : List New) → Extends (transform_runs ss fs rs made).made.new new
    → (transform_runs ss fs rs made).steps ≡ images fs new rs
unfolding transform_runs images join
runs_images ss fs [] made new w = refl
runs_images ss fs (r ∷ rs) made new w =
    let here = turn ss fs r made in
    let e = turn_image ss fs r made new (λ u c id h. w u c id (runs_grow ss fs rs here.made u c id h)) in
    let i = runs_images ss fs rs here.made new w in
    cc (e, i)

-- where a run is folded, its ID is made
abbrev pub HasId : List Segment → List New → Run → Type 0
HasId fs new r = is_folded_run fs r ≡ true → made_for r.step.name.bytes r.count new ≡ Some (id_for new r)

-- a run that is folded has its ID made
turn_has : (ss fs : List Segment) (r : Run) (made : Made) (new : List New) → Extends (turn ss fs r made).made.new new → HasId fs new r
unfolding turn
turn_has ss fs r made new w e =
    let f = found_fold ss r made in
    let h = rw e at w r.step.name.bytes r.count f.id f.found in
    h ∙ ap (λ (i : List ℕ). Some i) (sym (found_id new r f.id h))

-- the IDs of a path's folded runs are made
pub runs_have : (ss fs : List Segment) (rs : List Run) (made : Made) (new : List New) → Extends (transform_runs ss fs rs made).made.new new
    → Each (HasId fs new) rs
unfolding transform_runs
runs_have ss fs [] made new w = tt
runs_have ss fs (r ∷ rs) made new w =
    let here = turn ss fs r made in
    (turn_has ss fs r made new (λ u c id h. w u c id (runs_grow ss fs rs here.made u c id h)), runs_have ss fs rs here.made new w)

-- ---- all paths

-- the new segments only become more
pub paths_grow : (ss fs : List Segment) (ps : List Path) (made : Made) → Extends made.new (transform_paths ss fs ps made).made.new
unfolding transform_paths
paths_grow ss fs [] made u c id h = h
paths_grow ss fs (p ∷ ps) made u c id h =
    paths_grow ss fs ps (transform_runs ss fs (runs p.steps) made).made u c id (runs_grow ss fs (runs p.steps) made u c id h)

-- each path becomes the images of its runs
pub paths_images : (ss fs : List Segment) (ps : List Path) (made : Made) (new : List New) → Extends (transform_paths ss fs ps made).made.new new
    → (transform_paths ss fs ps made).paths ≡ map (λ p. images fs new (runs p.steps)) ps
unfolding transform_paths
paths_images ss fs [] made new w = refl
paths_images ss fs (p ∷ ps) made new w =
    let here = transform_runs ss fs (runs p.steps) made in
    cc (
      runs_images ss fs (runs p.steps) made new (λ u c id h. w u c id (paths_grow ss fs ps here.made u c id h)),
      paths_images ss fs ps here.made new w,
    )

-- the IDs of the folded runs of all paths are made
pub paths_have : (ss fs : List Segment) (ps : List Path) (made : Made) (new : List New) → Extends (transform_paths ss fs ps made).made.new new
    → Each (λ p. Each (HasId fs new) (runs p.steps)) ps
unfolding transform_paths
paths_have ss fs [] made new w = tt
paths_have ss fs (p ∷ ps) made new w =
    let here = transform_runs ss fs (runs p.steps) made in
    (runs_have ss fs (runs p.steps) made new (λ u c id h. w u c id (paths_grow ss fs ps here.made u c id h)), paths_have ss fs ps here.made new w)

-- the whole transformation: each path becomes the images of its runs under all new segments
pub transform_images : (es : List Entry) (cap : ℕ)
    → (transform es cap).paths ≡ map (λ p. images (folded es cap) (transform es cap).made.new (runs p.steps)) (paths es)
unfolding transform
transform_images es cap = paths_images (segments es) (folded es cap) (paths es) (none_made (segments es)) (transform es cap).made.new (λ u c id h. h)

-- and the IDs of all folded runs are made
pub transform_has : (es : List Entry) (cap : ℕ) → Each (λ p. Each (HasId (folded es cap) (transform es cap).made.new) (runs p.steps)) (paths es)
unfolding transform
transform_has es cap = paths_have (segments es) (folded es cap) (paths es) (none_made (segments es)) (transform es cap).made.new (λ u c id h. h)
