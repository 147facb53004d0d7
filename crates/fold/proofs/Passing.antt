-- The loop over the paths. Assumes nothing.
use Prim.Native.Nat.{ℕ, suc, ◌+◌, ◌*◌, ◌-◌, ◌≤◌, ◌<◌}
use native.Mathlib.Numerals.{add-one}
use native.Mathlib.Omega.{arith}
use mathlib.Core.Bool.{Bool, true, false}
use mathlib.Core.List.{List, [], ◌∷◌, ◌++◌, map, map-append}
use mathlib.Core.Path.{◌≡◌, refl, sym, ap, ◌∙◌}
use lib.Dec.{ltb}
use lib.ListN.{length}
use borrow.Author.Tests.{lt-ltb, ltb-true, ltb-false}
use Rattle.gfa_spec.specs.Bytes.{any, count as count_of, sum}
use Rattle.gfa_spec.specs.Reading.{Segment}
use Rattle.gfa_spec.specs.Runs.{runs as runs_of, bit}
use Rattle.gfa_spec.proofs.Tests.{by_test}
use Rattle.normalize_spec.specs.Folding.{AllTransformed, is_folded_run, transform_paths, none_made}
use Rattle.normalize_spec.proofs.Onward.{before_paths, paths_more}
use Rattle.work.proofs.Rows.{each_more}
use Rattle.tables.specs.declared.tables.Bases.{Bases}
use Rattle.tables.specs.declared.tables.Counts.{Counts}
use Rattle.tables.specs.declared.rows.PathWords.{PathWords}
use Rattle.tables.specs.declared.path_steps.Steps.{Steps}
use Rattle.tables.specs.ByNumber.{path_no, step_no, steps_from, paths_to, paths_from}
use Rattle.tables.specs.ByNumber as gfa
use Rattle.tables.proofs.ByNumber.{paths_next, steps_length, steps_nth}
use Rattle.runs.proofs.Totals.{summed_next, Summed}
use Rattle.normalize_tables.specs.declared.layout.Layout.{Layout}
use Rattle.normalize_tables.specs.declared.layout.Made.{Made}
use Rattle.normalize_tables.specs.Layout.{Placed, Source}
use Rattle.normalize_tables.specs.News.{first_of, names_at}
use Rattle.normalize_tables.specs.NewByNumber.{new_steps_from, new_paths_to, PathRowsTo, NewPathPut, KeptTo, SegmentsKept, StepsKept}
use Rattle.normalize_tables.proofs.NewByNumber.{paths_put_low, paths_put_segments, paths_put_steps, paths_put_paths, paths_put_behind, new_paths_more, new_path_is, new_steps_length}
use Rattle.normalize_tables.proofs.NewsKept.{new_paths_kept, path_rows_kept}
use Rattle.new_segs.specs.Makes.{made_at, Frame}
use Rattle.fold.specs.Turns.{KnownStep, KnownSteps, Folds, Stage, Room, stands_at, StepsTurned, with_path, NextIs}
use Rattle.fold.specs.Transforms.{AllKnown, PathReady}
use Rattle.new_segs.proofs.Keeping.{kept_less}
use Rattle.new_segs.proofs.NextIds.{not_less}
use Rattle.fold.proofs.Growing.{folds_kept, path_same, all_known_kept, frame_less, frame_then, same_names, same_made, same_new_steps, same_stage}

-- ---- a path that is changed

-- some element passes where the count is above 0
any_counted : {A : Type 0} (p : A → Bool) (xs : List A) → any p xs ≡ ltb 0 (count_of p xs)
unfolding any count_of
any_counted p [] = sym (not_less 0 0 (omega arith))
any_counted p (x ∷ xs) =
    by_test (p x)
    (λ e. rw e (sym (lt-ltb 0 (suc (count_of p xs)) (omega arith))))
    (λ e. rw e (any_counted p xs))

-- where a count was added
any_added : {A : Type 0} (p : A → Bool) (xs : List A) (a : ℕ) → any p xs ≡ ltb a (a + count_of p xs)
any_added p xs a =
    by_test (ltb 0 (count_of p xs))
    (λ e. any_counted p xs ∙ e ∙ sym (lt-ltb a (a + count_of p xs) (let h = ltb-true 0 (count_of p xs) e in omega arith)))
    (λ e. any_counted p xs ∙ e ∙ sym (not_less a (a + count_of p xs) (let h = ltb-false 0 (count_of p xs) e in omega arith)))

-- ---- one path

-- a bit is at most 1
bit_most : (t : Bool) → bit t ≤ 1
unfolding bit
bit_most true = omega arith
bit_most false = omega arith

-- a path's steps, by its words
path_steps : {text w : List ℕ} {b : Bases} {n : Counts} {p : ℕ} {r : PathWords} → gfa.PathIs text w b n p r → (path_no text w b p).steps ≡ steps_from text w b r.steps.first r.steps.end
path_steps e = ap (λ x. x.steps) e.path

path_long : {text w : List ℕ} {b : Bases} {n : Counts} {p : ℕ} {r : PathWords} → gfa.PathIs text w b n p r → length (path_no text w b p).steps ≡ r.steps.end - r.steps.first
path_long {text} {w} {b} {r = r} e = ap length (path_steps e) ∙ steps_length text w b r.steps.first r.steps.end

-- the row of a path
module _ {text w v u : List ℕ} {b : Bases} {n : Counts} {g : Layout} {m t x : Made} {p : ℕ} {r : PathWords} (s : Stage text w b n g m) (a : PathReady text w b n m p) (e : gfa.PathIs text w b n p r)
    {k : Steps} (q : StepsTurned text w v b n g m r.steps.first r.steps.end t) (first : k.first ≡ m.steps) (last : k.end ≡ t.steps) (o : NewPathPut v u g p k) (c : x ≡ with_path m t) where
  placed : Placed b n g (length w)
  placed = s.making.source.placed

  row_below : KeptTo g.paths v u
  row_below = paths_put_low placed p (p + 1) o.only (omega (arith, a.there))

  row_segs : SegmentsKept g t.segs v u
  row_segs = paths_put_segments placed p (p + 1) o.only (omega (arith, a.there)) t.segs

  row_steps : (k : ℕ) → StepsKept g k v u
  row_steps k = paths_put_steps placed p (p + 1) o.only (omega (arith, a.there)) k

  row_frame : Frame g p m.steps v u
  row_frame =
      record {
        long = o.long;
        low = kept_less g.last row_below (omega (arith, placed.paths));
        paths = paths_put_paths placed p (p + 1) o.only (omega (arith, a.there));
        steps = row_steps m.steps;
        high = paths_put_behind placed p (p + 1) o.only (omega (arith, a.there));
      }

  pub next_is : NextIs text w u b n g m p x
  next_is =
      rw c
      (record {
        grown =
            record {
              stage = same_stage q.grown.stage row_below row_segs (row_steps t.steps) t.runs (m.changed + bit (ltb m.runs t.runs)) o.long;
              first = q.grown.first;
              low = q.grown.low;
              few = rw (path_long e) q.grown.few;
              half = rw (path_long e) q.grown.half;
              runs = rw (path_long e) q.grown.runs;
              names = rw (same_names q.grown.stage row_below row_segs (row_steps t.steps)) q.grown.names;
              frame = frame_then (frame_less p m.steps q.grown.frame (omega (arith, a.there)) (omega arith)) row_frame;
            };
        first_step = ap (λ x. x.first) o.words ∙ first;
        last_step = ap (λ x. x.end) o.words ∙ last;
        turned = λ ss fs f. rw (path_steps e) (q.turned ss fs f ∙ stands ss);
        runs = λ ss fs f. rw (path_steps e) (q.runs ss fs f);
        changed = λ ss fs f.
            let added = any_added (is_folded_run fs) (runs_of (steps_from text w b r.steps.first r.steps.end)) m.runs in
            rw (path_steps e, added, q.runs ss fs f);
        few = omega (arith, bit_most (ltb m.runs t.runs));
      })
    where
      stands : (ss : List Segment) → stands_at ss text v b n g t m.steps ≡ stands_at ss text u b n g (with_path m t) m.steps
      stands ss =
          let s = q.grown.stage in
          unfold stands_at in
          rw (same_made s row_below row_segs (row_steps t.steps) ss, same_new_steps s row_below row_segs (row_steps t.steps) m.steps q.grown.low.1)

module _ {text w : List ℕ} {b : Bases} {n : Counts} {g : Layout} {m : Made} {p : ℕ} {r : PathWords} (s : Stage text w b n g m) (a : PathReady text w b n m p) (e : gfa.PathIs text w b n p r) where
  -- what the runs of a path are asked for
  pub path_room : Room n m (r.steps.end - r.steps.first)
  path_room = rw (← path_long e) a.room

  pub path_known : KnownSteps text w b n r.steps.first r.steps.end
  path_known = record { step = known }
    where
      known : (i : ℕ) → r.steps.first ≤ i → i < r.steps.end → KnownStep text w b n i
      known i l h =
          let d = step_no text w b 0 in
          let k = a.known.step (i - r.steps.first) d (rw (path_long e) (omega arith)) in
          rw (← steps_nth text w b r.steps.first r.steps.end i d l h, ← path_steps e) k

-- ---- all paths

-- a sum with one number more
sum_snoc : (xs : List ℕ) (x : ℕ) → sum (xs ++ (x ∷ [])) ≡ sum xs + x
unfolding sum
sum_snoc [] x = omega arith
sum_snoc (y ∷ xs) x = rw (sum_snoc xs x) (omega arith)

-- the new paths that the paths before p became, before what those from p on become
abbrev pub gone_on_paths : List Segment → List Segment → List ℕ → List ℕ → List ℕ → Bases → Counts → Layout → Made → ℕ → AllTransformed
gone_on_paths ss fs text first work b n g m p =
    before_paths (new_paths_to (names_at text work b n g (first_of m.first) m.segs) work g p) (transform_paths ss fs (paths_from text first b n p) (made_at ss text work b g (first_of m.first) m.segs))

-- The state at path p: the paths before it are transformed.
pub record Passing (text first work : List ℕ) (b : Bases) (n : Counts) (g : Layout) (m : Made) (p : ℕ) : Type 0 where
  pub source : Source text first b n g
  pub known : AllKnown text first b n
  pub high : p ≤ n.paths
  pub stage : Stage text work b n g m
  pub frame : Frame g 0 0 first work
  pub done : ℕ
  pub summed : Summed length text first b n p done
  pub few : m.steps + m.segs ≤ done
  pub half : 2 * m.segs ≤ done
  pub few_runs : m.runs ≤ done
  pub few_changed : m.changed ≤ p
  pub rows : PathRowsTo m.steps work g p
  pub steps : m.steps ≡ sum (map length (new_paths_to (names_at text work b n g (first_of m.first) m.segs) work g p))
  pub left : (ss fs : List Segment) → Folds ss fs text first b n g
      → transform_paths ss fs (paths_to text first b n.paths) (none_made ss)
      ≡ gone_on_paths ss fs text first work b n g m p
  pub runs : (ss fs : List Segment) → Folds ss fs text first b n g → Summed (λ st. count_of (is_folded_run fs) (runs_of st)) text first b n p m.runs
  pub changed : (ss fs : List Segment) → Folds ss fs text first b n g → Summed (λ st. bit (any (is_folded_run fs) (runs_of st))) text first b n p m.changed

module _ {text first : List ℕ} {b : Bases} {n : Counts} {g : Layout} {work : List ℕ} {m : Made} {p : ℕ} (s : Passing text first work b n g m p) where
  next_summed : p < n.paths → Summed length text first b n (p + 1) (s.done + length (path_no text first b p).steps)
  next_summed h = summed_next s.summed h refl

  next_fits : p < n.paths → s.done + length (path_no text first b p).steps ≤ n.steps
  next_fits h = omega (arith, (next_summed h).left, s.source.visits)

  pub passing_ready : p < n.paths → PathReady text work b n m p
  passing_ready h =
      record {
        there = h;
        room =
            rw (path_same s.source s.frame.low p h)
            (record { few = omega (arith, next_fits h, s.few); half = omega (arith, next_fits h, s.half); runs = omega (arith, next_fits h, s.few_runs) });
        known = (all_known_kept s.source s.frame.low s.known).paths p h;
        changed = s.few_changed;
        small = omega (arith, s.few_changed, s.source.readable.few.3);
      }

  module _ (h : p < n.paths) {work' : List ℕ} {r : Made} (q : NextIs text work work' b n g m p r) where
    -- the new paths with one more
    new_paths_stand : new_paths_to (names_at text work' b n g (first_of r.first) r.segs) work' g (p + 1)
        ≡ new_paths_to (names_at text work b n g (first_of m.first) m.segs) work g p ++ (new_steps_from (names_at text work' b n g (first_of r.first) r.segs) work' g m.steps r.steps ∷ [])
    new_paths_stand =
        let names' = names_at text work' b n g (first_of r.first) r.segs in
        new_paths_more names' work' g p
        ∙ rw (new_paths_kept q.grown.names g q.grown.frame.steps s.stage.steps p q.grown.frame.paths s.rows, new_path_is names' work' g p, q.last_step, q.first_step)

    new_path_rows : PathRowsTo r.steps work' g (p + 1)
    new_path_rows =
        rw add-one
        (each_more (path_rows_kept g r.steps s.rows q.grown.frame.paths q.grown.low.1)
        (record { steps = rw q.last_step (omega arith) }))

    new_total : r.steps ≡ sum (map length (new_paths_to (names_at text work' b n g (first_of r.first) r.segs) work' g (p + 1)))
    new_total =
        let size = new_steps_length (names_at text work' b n g (first_of r.first) r.segs) work' g m.steps r.steps in
        rw (new_paths_stand, map-append, sum_snoc, size) (omega (arith, s.steps, q.grown.low))

    new_left : (ss fs : List Segment) → Folds ss fs text first b n g
        → transform_paths ss fs (paths_to text first b n.paths) (none_made ss)
        ≡ gone_on_paths ss fs text first work' b n g r (p + 1)
    new_left ss fs f =
        s.left ss fs f
        ∙ rw (paths_next text first b n p h, paths_more, ← path_same s.source s.frame.low p h, q.turned ss fs (folds_kept s.source s.frame.low f), new_paths_stand)
        (unfold stands_at in refl)

    pub passing_more : Passing text first work' b n g r (p + 1)
    passing_more =
        record {
          source = s.source;
          known = s.known;
          high = omega arith;
          stage = q.grown.stage;
          frame = frame_then s.frame (frame_less 0 0 q.grown.frame (omega arith) (omega arith));
          done = s.done + length (path_no text first b p).steps;
          summed = next_summed h;
          few = omega (arith, q.grown.few, s.few, long);
          half = omega (arith, q.grown.half, s.half, long);
          few_runs = omega (arith, q.grown.runs, s.few_runs, long);
          few_changed = omega (arith, q.few, s.few_changed);
          rows = new_path_rows;
          steps = new_total;
          left = new_left;
          runs = λ ss fs f. rw (q.runs ss fs (folds_kept s.source s.frame.low f), path_same s.source s.frame.low p h) (summed_next (s.runs ss fs f) h refl);
          changed = λ ss fs f. rw (q.changed ss fs (folds_kept s.source s.frame.low f), path_same s.source s.frame.low p h) (summed_next (s.changed ss fs f) h refl);
        }
      where
        long : length (path_no text work b p).steps ≡ length (path_no text first b p).steps
        long = rw (path_same s.source s.frame.low p h)
