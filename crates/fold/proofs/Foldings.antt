-- What is made, by the graph and the new segments that are lent. Assumes nothing.
use Prim.Native.Nat.{ℕ, ◌+◌, ◌-◌, ◌≤◌, ◌<◌}
use native.Mathlib.Omega.{arith}
use mathlib.Core.Bool.{Bool, true, false}
use mathlib.Core.List.{List}
use mathlib.Core.Path.{◌≡◌, refl, ap, ◌∙◌}
use Rattle.std.specs.Prelude.{Option, None, Some}
use Rattle.scan.specs.declared.orientation.Orientation.{Orientation}
use Rattle.scan.specs.declared.places.Place.{Place}
use Rattle.scan.specs.Orientations.{sign_of}
use Rattle.scan.specs.Places.{bytes_in}
use Rattle.tables.specs.declared.tables.Bases.{Bases}
use Rattle.tables.specs.declared.tables.Counts.{Counts}
use Rattle.tables.specs.declared.rows.PathWords.{PathWords}
use Rattle.tables.specs.declared.path_steps.Steps.{Steps}
use Rattle.tables.specs.declared.rows.StepWords.{StepWords}
use Rattle.tables.specs.declared.graph.Graph.{Graph}
use Rattle.tables.specs.ByNumber.{segments_of, PathIs, StepIs}
use Rattle.runs.specs.Runs.{RunFrom}
use Rattle.normalize_tables.specs.declared.layout.Layout.{Layout}
use Rattle.normalize_tables.specs.declared.layout.Made.{Made}
use Rattle.normalize_tables.specs.declared.news.News.{News}
use Rattle.normalize_tables.specs.News.{first_of}
use Rattle.normalize_tables.specs.NewByNumber.{NewPathPut}
use Rattle.new_segs.specs.Chains.{MadeIs}
use Rattle.new_segs.specs.Makes.{SegmentMade}
use Rattle.fold.specs.declared.folding.Folding.{Folding}
use Rattle.fold.specs.Turns.{EqualStepsPut, KnownIn, KnownStep, KnownSteps, UnitIs, Stage, Room, FoldedIs, TargetIs, FoldIs, with_path, NextIs}
use Rattle.fold.specs.Foldings.{FoldingGraph, FoldingNews, SamePaths, FindsTarget, FoldsRun, KeepsRun, TurnsRun, TurnsSteps}
use Rattle.fold.specs.Transforms.{PathReady}
use Rattle.fold.proofs.Turning.{target_fits, target_made, target_new, fold_is, step_known, turn_folded, turn_kept}
use Rattle.fold.proofs.Running.{Running, running_known, running_room, running_more}
use Rattle.fold.proofs.Passing.{Passing, next_is, path_room, path_known, passing_more}

-- ---- what stays

pub same_none : {f : Folding} → SamePaths f f
same_none = record { text = refl; loan = refl; bases = refl; counts = refl; layout = refl }

pub same_then : {a b c : Folding} → SamePaths a b → SamePaths b c → SamePaths a c
same_then s t = record { text = t.text ∙ s.text; loan = t.loan ∙ s.loan; bases = t.bases ∙ s.bases; counts = t.counts ∙ s.counts; layout = t.layout ∙ s.layout }

-- ---- a run that is folded

-- the segment made for it, by the new segments that are lent
module _ {f : Folding} {s : News} (o : FoldingNews f s) {unit count : ℕ} {r : Option ℕ} (h : Room f.a.n f.a.m count × (unit < f.a.n.segs) × (2 ≤ count))
    (q : MadeIs s.work.now s.a.g s.a.m.segs unit count r) where
  made_in : MadeIs f.work.now f.a.g f.a.m.segs unit count r
  made_in = rw (o.work, o.area) at q

  pub finds_fits : {j : ℕ} → r ≡ Some j → f.a.n.segs + j < 18446744073709551616
  finds_fits z = target_fits f.stage h.0 h.1 h.2 made_in z

  pub finds_made : {j : ℕ} → r ≡ Some j → FindsTarget f unit count (f.a.n.segs + j) f
  finds_made z = record { same = same_none; made = refl; target = target_made f.stage h.0 h.1 h.2 made_in z }

  pub finds_new : {v : List ℕ} → r ≡ None → SegmentMade f.text.now f.work.now v f.a.b f.a.n f.a.g (first_of f.a.m.first) f.a.m.segs unit count
      → TargetIs f.text.now f.work.now v f.a.b f.a.n f.a.g f.a.m unit count (f.a.n.segs + f.a.m.segs) (f.a.m.segs + 1)
  finds_new z a = target_new f.stage h.0 h.1 h.2 made_in z a

pub ruleset finding = (finds_fits, finds_made, finds_new)

-- a step on its target
module _ {f v : Folding} {w' : List ℕ} {unit count node : ℕ} {mark : Orientation} (h : Room f.a.n f.a.m count) (two : 2 ≤ count) (t : FindsTarget f unit count node v)
    (u : EqualStepsPut v.work.now w' f.a.g f.a.m.steps (record { node = node; mark = mark }) 1) where
  pub folds_given : FoldIs f.text.now f.work.now w' f.a.b f.a.n f.a.g f.a.m unit count (sign_of mark)
      (record { first = v.a.m.first; segs = v.a.m.segs; steps = f.a.m.steps + 1; runs = f.a.m.runs + 1; changed = v.a.m.changed })
  folds_given =
      let first : v.a.m.first ≡ f.a.m.first = ap (λ x. x.first) t.made in
      let changed : v.a.m.changed ≡ f.a.m.changed = ap (λ x. x.changed) t.made in
      rw (first, changed) (fold_is h two t.target u)

  pub folds_stage : Stage v.text.now w' v.a.b v.a.n v.a.g (record { first = v.a.m.first; segs = v.a.m.segs; steps = f.a.m.steps + 1; runs = f.a.m.runs + 1; changed = v.a.m.changed })
  folds_stage = rw (t.same.text, t.same.bases, t.same.counts, t.same.layout) folds_given.grown.stage

-- ---- a run, by the graph that is lent

module _ {f : Folding} {g : Graph} (o : FoldingGraph f g) where
  step_in : {i : ℕ} {x : StepWords} → StepIs g.text.now g.work.now g.b i x → StepIs f.text.now f.work.now f.a.b i x
  step_in q = rw (o.text, o.work, o.bases) at q

  unit_in : {name : Place} {r : ℕ} → UnitIs g.text.now g.work.now g.b g.n name r → UnitIs f.text.now f.work.now f.a.b f.a.n name r
  unit_in q = rw (o.text, o.work, o.bases, o.counts) at q

  folded_in : {l : Layout} {unit count : ℕ} {t : Bool} → FoldedIs g.work.now l unit count t → FoldedIs f.work.now l unit count t
  folded_in q = rw o.work at q

  run_in : {i end r : ℕ} → RunFrom g.text.now g.work.now g.b i end r → RunFrom f.text.now f.work.now f.a.b i end r
  run_in q = rw (o.text, o.work, o.bases) at q

  path_in : {p : ℕ} {r : PathWords} → PathIs g.text.now g.work.now g.b g.n p r → PathIs f.text.now f.work.now f.a.b f.a.n p r
  path_in q = rw (o.text, o.work, o.bases, o.counts) at q

  -- its step has a segment
  pub unit_known : {i : ℕ} {x : StepWords} → KnownStep f.text.now f.work.now f.a.b f.a.n i → StepIs g.text.now g.work.now g.b i x
      → KnownIn (segments_of g.text.now g.work.now g.b g.n) (bytes_in g.text.now x.name)
  unit_known k q = let x = step_known f.a.n k (step_in q) in rw (o.text, o.work, o.bases, o.counts) x

  pub unit_below : {name : Place} {r : ℕ} → UnitIs g.text.now g.work.now g.b g.n name r → r < f.a.n.segs
  unit_below u = (unit_in u).below

  module _ {i unit count : ℕ} {x : StepWords} {t : Bool} {v : Folding} (e : StepIs g.text.now g.work.now g.b i x) (u : UnitIs g.text.now g.work.now g.b g.n x.name unit)
      (q : FoldedIs g.work.now f.a.g unit count t) where
    pub turns_folded : t ≡ true → FoldsRun f unit count (sign_of x.mark) v → TurnsRun f i count v
    turns_folded y r = record { same = r.same; turns = turn_folded (step_in e) (unit_in u) (folded_in q) y r.folds }

    pub turns_kept : t ≡ false → KeepsRun f unit count (sign_of x.mark) v → TurnsRun f i count v
    turns_kept y r = record { same = r.same; turns = turn_kept (step_in e) (unit_in u) (folded_in q) y r.keeps }

pub ruleset turning = (unit_known, unit_below, turns_folded, turns_kept)

-- ---- the runs of a path

module _ {f now : Folding} {first end i : ℕ} (s : SamePaths f now) (q : Running f.text.now f.work.now now.work.now f.a.b f.a.n f.a.g f.a.m now.a.m first end i) where
  pub turn_known : i < end → (i < now.a.n.steps) × KnownStep now.text.now now.work.now now.a.b now.a.n i
  turn_known h = rw (s.text, s.bases, s.counts) (omega (arith, q.inside), running_known q h)

  module _ {g : Graph} {r : ℕ} (o : FoldingGraph now g) (x : RunFrom g.text.now g.work.now g.b i end r) where
    run_here : RunFrom f.text.now now.work.now f.a.b i end r
    run_here = rw (s.text, s.bases) at (run_in o x)

    pub turn_room : Room now.a.n now.a.m (r - i)
    turn_room = rw s.counts (running_room q run_here)

    pub turn_more : {v : Folding} → TurnsRun now i (r - i) v → SamePaths f v × Running f.text.now f.work.now v.work.now f.a.b f.a.n f.a.g f.a.m v.a.m first end r
    turn_more t = (same_then s t.same, running_more q run_here (rw (s.text, s.bases, s.counts, s.layout) at t.turns))

-- ---- a path

module _ {f : Folding} {g : Graph} {p : ℕ} {r : PathWords} (o : FoldingGraph f g) (a : PathReady f.text.now f.work.now f.a.b f.a.n f.a.m p) (e : PathIs g.text.now g.work.now g.b g.n p r) where
  pub steps_room : Room f.a.n f.a.m (r.steps.end - r.steps.first)
  steps_room = path_room f.stage a (path_in o e)

  pub steps_known : (r.steps.end ≤ f.a.n.steps) × KnownSteps f.text.now f.work.now f.a.b f.a.n r.steps.first r.steps.end
  steps_known = let q = path_in o e in (q.high, path_known f.stage a q)

  module _ {v : Folding} {u : List ℕ} {x : Made} {k : Steps} (q : TurnsSteps f r.steps.first r.steps.end v) (first : k.first ≡ f.a.m.steps) (last : k.end ≡ v.a.m.steps)
      (put : NewPathPut v.work.now u f.a.g p k) (c : x ≡ with_path f.a.m v.a.m) where
    pub next_given : NextIs f.text.now f.work.now u f.a.b f.a.n f.a.g f.a.m p x
    next_given = next_is f.stage a (path_in o e) q.turns first last put c

    pub next_stage : Stage v.text.now u v.a.b v.a.n v.a.g x
    next_stage = rw (q.same.text, q.same.bases, q.same.counts, q.same.layout) next_given.grown.stage

-- where the work area comes back
pub path_given : {text first work v u : List ℕ} {b : Bases} {n : Counts} {g : Layout} {m r : Made} {p : ℕ} → Passing text first work b n g m p → p < n.paths
    → NextIs text work v b n g m p r → u ≡ v → Passing text first u b n g r (p + 1)
path_given s h q z = rw z (passing_more s h q)
