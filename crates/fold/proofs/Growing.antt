-- Growth, run by run: what is kept, and what stands. Assumes nothing.
use Prim.Native.Nat.{ℕ, ◌+◌, ◌≤◌, ◌<◌}
use native.Mathlib.Omega.{arith}
use mathlib.Core.Bool.{◌&&◌}
use mathlib.Core.List.{List, ◌++◌}
use Rattle.std.specs.Prelude.{Some}
use mathlib.Core.Path.{◌≡◌, refl, ◌∙◌}
use lib.Dec.{eqb}
use lib.ListN.{length, get_or}
use Rattle.gfa_spec.specs.Reading.{Segment}
use Rattle.gfa_spec.specs.Records.{segment_number}
use Rattle.gfa_spec.specs.Runs.{Run, is_repeat}
use Rattle.normalize_spec.specs.Folding.{is_folded_run}
use Rattle.tables.specs.declared.tables.Bases.{Bases}
use Rattle.tables.specs.declared.tables.Counts.{Counts}
use Rattle.tables.specs.ByNumber.{path_no}
use Rattle.tables.proofs.ByNumber.{path_stands, step_stands}
use Rattle.normalize_tables.specs.declared.layout.Layout.{Layout}
use Rattle.normalize_tables.specs.declared.layout.Made.{Made}
use Rattle.normalize_tables.specs.Layout.{Source}
use Rattle.normalize_tables.specs.News.{first_of, names_at, Agree}
use Rattle.normalize_tables.specs.NewByNumber.{new_steps_from, KeptTo, SegmentsKept, StepsKept}
use Rattle.normalize_tables.proofs.NewByNumber.{new_steps_split}
use Rattle.normalize_tables.proofs.NewsKept.{news_kept, names_kept, new_steps_kept, step_rows_kept}
use Rattle.new_segs.specs.Makes.{made_at, Frame}
use Rattle.fold.specs.Turns.{KnownStep, Folds, Stage, Grown}
use Rattle.fold.specs.Transforms.{AllKnown}
use Rattle.new_segs.proofs.Keeping.{kept_less, of_text, low_stands, making_kept}

-- ---- what stays

module _ {text w w' : List ℕ} {b : Bases} {n : Counts} {g : Layout} (s : Source text w b n g) (low : KeptTo g.last w w') where
  pub folds_kept : {ss fs : List Segment} → Folds ss fs text w b n g → Folds ss fs text w' b n g
  folds_kept {ss} {fs} f = record { segs = (low_stands s low).of_segments ∙ f.segs; marks = marks }
    where
      marks : (k : ℕ) (run : Run) → segment_number ss run.step.name.bytes ≡ Some k → k < n.segs → is_folded_run fs run ≡ (is_repeat run && eqb (get_or w' (g.folded + k) 0) 1)
      marks k run e h = rw (low.word (g.folded + k) (omega (arith, s.placed.last))) (f.marks k run e h)

  -- a step on a segment of the text
  pub known_kept : (i : ℕ) → i < n.steps → KnownStep text w b n i → KnownStep text w' b n i
  known_kept i h k = rw ((low_stands s low).of_segments, step_stands s.readable (of_text s low) i h) k

  -- a path
  pub path_same : (p : ℕ) → p < n.paths → path_no text w' b p ≡ path_no text w b p
  path_same p h = path_stands s.readable (of_text s low) p h

  -- all steps
  pub all_known_kept : AllKnown text w b n → AllKnown text w' b n
  all_known_kept k = record { paths = λ p h. rw ((low_stands s low).of_segments, path_same p h) (k.paths p h) }

-- ---- growth

-- equal names agree
pub names_same : {nodes : ℕ} {names names' : List (List ℕ)} → names' ≡ names → Agree nodes names names'
names_same e = record { same_name = λ k h. rw e }

pub agree_then : {nodes more : ℕ} {a b c : List (List ℕ)} → Agree nodes a b → Agree more b c → nodes ≤ more → Agree nodes a c
agree_then p q l = record { same_name = λ k h. q.same_name k (omega arith) ∙ p.same_name k h }

-- what a frame keeps: nothing has changed, less of it, and one behind the other
pub frame_none : {g : Layout} {p t : ℕ} {w : List ℕ} → Frame g p t w w
frame_none =
    record { long = refl; low = record { word = λ i h. refl }; paths = record { row = λ i h. refl }; steps = record { row = λ i h. refl }; high = λ i h. refl }

pub frame_less : {g : Layout} {p t : ℕ} {w v : List ℕ} (p' t' : ℕ) → Frame g p t w v → p' ≤ p → t' ≤ t → Frame g p' t' w v
frame_less p' t' f h l =
    record {
      long = f.long;
      low = f.low;
      paths = record { row = λ i a. f.paths.row i (omega arith) };
      steps = record { row = λ i a. f.steps.row i (omega arith) };
      high = f.high;
    }

pub frame_then : {g : Layout} {p t : ℕ} {w v u : List ℕ} → Frame g p t w v → Frame g p t v u → Frame g p t w u
frame_then a b =
    record {
      long = b.long ∙ a.long;
      low = record { word = λ i h. b.low.word i h ∙ a.low.word i h };
      paths = record { row = λ i h. b.paths.row i h ∙ a.paths.row i h };
      steps = record { row = λ i h. b.steps.row i h ∙ a.steps.row i h };
      high = λ i h. b.high i h ∙ a.high i h;
    }

module _ {text w v u : List ℕ} {b : Bases} {n : Counts} {g : Layout} {hi : ℕ} {m k r : Made} {c d : ℕ} (p : Grown text w v b n g hi m k c) (q : Grown text v u b n g hi k r d) where
  pub grown_then : (e : ℕ) → c + d ≤ e → Grown text w u b n g hi m r e
  grown_then e h =
      record {
        stage = q.stage;
        first = q.first ∙ p.first;
        low = (omega (arith, p.low, q.low), omega (arith, p.low, q.low), omega (arith, p.low, q.low));
        few = omega (arith, p.few, q.few);
        half = omega (arith, p.half, q.half);
        runs = omega (arith, p.runs, q.runs);
        names = agree_then p.names q.names (omega (arith, p.low));
        frame = frame_then p.frame (frame_less hi m.steps q.frame (omega arith) p.low.1);
      }

-- the new steps from step t on, and those that came behind them
pub steps_more : {text v u : List ℕ} {b : Bases} {n : Counts} {g : Layout} {hi : ℕ} {k r : Made} {d : ℕ} (t : ℕ) → Stage text v b n g k → Grown text v u b n g hi k r d → t ≤ k.steps
    → new_steps_from (names_at text u b n g (first_of r.first) r.segs) u g t r.steps
    ≡ new_steps_from (names_at text v b n g (first_of k.first) k.segs) v g t k.steps ++ new_steps_from (names_at text u b n g (first_of r.first) r.segs) u g k.steps r.steps
steps_more {text} {v} {u} {b} {n} {g} {hi} {k} {r} t s q h =
    new_steps_split (names_at text u b n g (first_of r.first) r.segs) u g t k.steps r.steps h q.low.1
    ∙ rw (new_steps_kept q.names g q.frame.steps s.steps t k.steps h (omega arith))

-- ---- nothing of it changed

module _ {text v u : List ℕ} {b : Bases} {n : Counts} {g : Layout} {m : Made} (s : Stage text v b n g m) (k : KeptTo g.paths v u) (c : SegmentsKept g m.segs v u)
    (d : StepsKept g m.steps v u) where
  same_low : KeptTo g.last v u
  same_low = kept_less g.last k (omega (arith, s.making.source.placed.paths))

  pub same_names : names_at text u b n g (first_of m.first) m.segs ≡ names_at text v b n g (first_of m.first) m.segs
  same_names = names_kept s.making.source (of_text s.making.source same_low) (first_of m.first) s.making.rows c

  pub same_made : (ss : List Segment) → made_at ss text u b g (first_of m.first) m.segs ≡ made_at ss text v b g (first_of m.first) m.segs
  unfolding made_at
  same_made ss = rw (news_kept s.making.source (of_text s.making.source same_low) (first_of m.first) s.making.rows c)

  pub same_new_steps : (t : ℕ) → t ≤ m.steps
      → new_steps_from (names_at text u b n g (first_of m.first) m.segs) u g t m.steps ≡ new_steps_from (names_at text v b n g (first_of m.first) m.segs) v g t m.steps
  same_new_steps t h = new_steps_kept (names_same {nodes = n.segs + m.segs} same_names) g d s.steps t m.steps h (omega arith)

  pub same_stage : (runs changed : ℕ) → length u ≡ length v → Stage text u b n g (record { first = m.first; segs = m.segs; steps = m.steps; runs = runs; changed = changed })
  same_stage runs changed e = record { making = making_kept s.making k c e; steps = step_rows_kept g (n.segs + m.segs) s.steps d (omega arith) }
