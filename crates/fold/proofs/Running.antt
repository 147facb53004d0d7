-- The loop over the runs of a path. Assumes nothing.
use Prim.Native.Nat.{ℕ, suc, ◌+◌, ◌-◌, ◌≤◌, ◌<◌}
use native.Mathlib.Omega.{arith}
use mathlib.Core.Bool.{Bool, true, false, cond}
use mathlib.Core.List.{List, ◌∷◌}
use mathlib.Core.Path.{◌≡◌, refl, sym, ◌∙◌}
use Rattle.gfa_spec.specs.Bytes.{count as count_of}
use Rattle.gfa_spec.specs.Reading.{Segment}
use Rattle.gfa_spec.specs.Runs.{runs as runs_of, bit}
use Rattle.normalize_spec.specs.Folding.{Transformed, is_folded_run, transform_runs}
use Rattle.normalize_spec.proofs.Onward.{before, runs_start, runs_more, runs_end}
use Rattle.tables.specs.declared.tables.Bases.{Bases}
use Rattle.tables.specs.declared.tables.Counts.{Counts}
use Rattle.tables.specs.ByNumber.{step_no, steps_from}
use Rattle.runs.specs.Runs.{RunFrom}
use Rattle.tables.proofs.ByNumber.{TablesKept, steps_none, steps_stand}
use Rattle.normalize_tables.specs.declared.layout.Layout.{Layout}
use Rattle.normalize_tables.specs.declared.layout.Made.{Made}
use Rattle.normalize_tables.specs.News.{first_of, names_at}
use Rattle.normalize_tables.specs.NewByNumber.{new_steps_from}
use Rattle.normalize_tables.proofs.NewByNumber.{new_steps_none}
use Rattle.new_segs.specs.Makes.{made_at}
use Rattle.fold.specs.Turns.{KnownStep, KnownSteps, Folds, Stage, Room, Grown, stands_at, TurnIs, StepsTurned}
use Rattle.new_segs.proofs.Keeping.{of_text}
use Rattle.fold.proofs.Growing.{folds_kept, known_kept, frame_none, grown_then, steps_more}

-- one element and the others
pub count_cons : {A : Type 0} (p : A → Bool) (x : A) (xs : List A) → count_of p (x ∷ xs) ≡ bit (p x) + count_of p xs
unfolding count_of bit
count_cons p x xs = go (p x)
  where
    go : (t : Bool) → cond t (suc (count_of p xs)) (count_of p xs) ≡ bit t + count_of p xs
    go true = omega arith
    go false = omega arith

-- nothing has grown
pub grown_none : {text w : List ℕ} {b : Bases} {n : Counts} {g : Layout} {m : Made} (p : ℕ) → Stage text w b n g m → Grown text w w b n g p m m 0
grown_none p s =
    record {
      stage = s;
      first = refl;
      low = (omega arith, omega arith, omega arith);
      few = omega arith;
      half = omega arith;
      runs = omega arith;
      names = record { same_name = λ k h. refl };
      frame = frame_none;
    }

-- the steps that the runs before step i became, before what those from i on become
abbrev pub gone_on : List Segment → List Segment → List ℕ → List ℕ → List ℕ → Bases → Counts → Layout → Made → Made → ℕ → ℕ → Transformed
gone_on ss fs text old work b n g m made i end =
    before (new_steps_from (names_at text work b n g (first_of made.first) made.segs) work g m.steps made.steps)
    (transform_runs ss fs (runs_of (steps_from text old b i end)) (made_at ss text work b g (first_of made.first) made.segs))

-- The state at step i: the runs before it are turned; `old` are the words before the first.
pub record Running (text old work : List ℕ) (b : Bases) (n : Counts) (g : Layout) (m made : Made) (first end i : ℕ) : Type 0 where
  pub stage : Stage text old b n g m
  pub room : Room n m (end - first)
  pub inside : end ≤ n.steps
  pub known : KnownSteps text old b n first end
  pub low : first ≤ i
  pub high : i ≤ end
  pub grown : Grown text old work b n g n.paths m made (i - first)
  pub changed : made.changed ≡ m.changed
  pub left : (ss fs : List Segment) → Folds ss fs text old b n g
      → transform_runs ss fs (runs_of (steps_from text old b first end)) (made_at ss text old b g (first_of m.first) m.segs)
      ≡ gone_on ss fs text old work b n g m made i end
  pub runs : (ss fs : List Segment) → Folds ss fs text old b n g
      → m.runs + count_of (is_folded_run fs) (runs_of (steps_from text old b first end)) ≡ made.runs + count_of (is_folded_run fs) (runs_of (steps_from text old b i end))

module _ {text old : List ℕ} {b : Bases} {n : Counts} {g : Layout} {m : Made} {first end : ℕ} where
  pub running_start : Stage text old b n g m × Room n m (end - first) → (first ≤ end) × (end ≤ n.steps) × KnownSteps text old b n first end → Running text old old b n g m m first end first
  running_start s h =
      let none_yet : first - first ≡ 0 = omega arith in
      record {
        stage = s.0;
        room = s.1;
        inside = h.1;
        known = h.2;
        low = omega arith;
        high = h.0;
        grown = rw none_yet (grown_none n.paths s.0);
        changed = refl;
        left = λ ss fs f.
            rw (new_steps_none (names_at text old b n g (first_of m.first) m.segs) old g m.steps m.steps (omega arith))
            (runs_start ss fs (runs_of (steps_from text old b first end)) (made_at ss text old b g (first_of m.first) m.segs));
        runs = λ ss fs f. refl;
      }

  module _ {work : List ℕ} {made : Made} {i : ℕ} (s : Running text old work b n g m made first end i) where
    -- the tables of the text are kept
    tables : TablesKept b n old work
    tables = of_text s.stage.making.source s.grown.frame.low

    pub running_known : i < end → KnownStep text work b n i
    running_known h = known_kept s.stage.making.source s.grown.frame.low i (omega (arith, s.inside)) (s.known.step i s.low h)

    module _ {r : ℕ} (q : RunFrom text work b i end r) where
      pub running_room : Room n made (r - i)
      running_room =
          record {
            few = omega (arith, s.room.few, s.grown.few, s.low, q.low, q.high);
            half = omega (arith, s.room.half, s.grown.half, s.low, q.low, q.high);
            runs = omega (arith, s.room.runs, s.grown.runs, s.low, q.low, q.high);
          }

      -- the run, of the first words
      run_first : runs_of (steps_from text old b i end) ≡ record { step = step_no text work b i; count = r - i } ∷ runs_of (steps_from text old b r end)
      run_first =
          let t = s.stage.making.source.readable in
          rw (← steps_stand t tables i end s.high s.inside, ← steps_stand t tables r end q.high s.inside) q.first

      pub running_more : {work' : List ℕ} {k : Made} → TurnIs text work work' b n g made i (r - i) k → Running text old work' b n g m k first end r
      running_more {work'} {k} t =
          record {
            stage = s.stage;
            room = s.room;
            inside = s.inside;
            known = s.known;
            low = omega (arith, s.low, q.low);
            high = q.high;
            grown = grown_then s.grown t.grown (r - first) (omega (arith, s.low, q.low));
            changed = t.changed ∙ s.changed;
            left = λ ss fs f. s.left ss fs f ∙ left ss fs (folds_kept s.stage.making.source s.grown.frame.low f);
            runs = λ ss fs f. s.runs ss fs f ∙ runs ss fs (folds_kept s.stage.making.source s.grown.frame.low f);
          }
        where
          left : (ss fs : List Segment) → Folds ss fs text work b n g → gone_on ss fs text old work b n g m made i end ≡ gone_on ss fs text old work' b n g m k r end
          left ss fs f =
              rw (run_first, runs_more, t.turned ss fs f, steps_more m.steps s.grown.stage t.grown s.grown.low.1) (unfold stands_at in refl)

          runs : (ss fs : List Segment) → Folds ss fs text work b n g
              → made.runs + count_of (is_folded_run fs) (runs_of (steps_from text old b i end)) ≡ k.runs + count_of (is_folded_run fs) (runs_of (steps_from text old b r end))
          runs ss fs f = rw (run_first, count_cons, t.runs ss fs f) (omega arith)

    pub running_end : end ≤ i → StepsTurned text old work b n g m first end made
    unfolding runs_of
    running_end h =
        let e : i ≡ end = omega (arith, s.high) in
        record {
          grown = rw e at s.grown;
          changed = s.changed;
          turned = λ ss fs f. s.left ss fs f ∙ rw (steps_none text old b i end h, runs_end) (unfold stands_at in refl);
          runs = λ ss fs f. sym (s.runs ss fs f ∙ rw (steps_none text old b i end h) (unfold count_of in omega arith));
        }
