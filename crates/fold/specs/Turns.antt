-- What a run becomes in the tables, and what the runs of a path become. Document 01, "Folding", rule 4.
use Rattle.std.specs.Prelude.{ℕ, ◌+◌, ◌*◌, ◌-◌, ◌≤◌, ◌<◌, Bool, true, ◌&&◌, List, [], ◌∷◌, ◌≡◌, eqb, ltb, leb, length, get_or}
use Rattle.std.specs.Prelude.{Some}
use Rattle.gfa_spec.specs.Bytes.{any, nth, count as count_of}
use Rattle.gfa_spec.specs.Reading.{Segment}
use Rattle.gfa_spec.specs.Records.{segment_number}
use Rattle.gfa_spec.specs.Runs.{Run, runs as runs_of, is_repeat, bit}
use Rattle.normalize_spec.specs.Folding.{Transformed, is_folded_run, onto, fold_run, keep_run, turn, transform_runs}
use Rattle.scan.specs.declared.places.Place.{Place}
use Rattle.scan.specs.Orientations.{sign_of}
use Rattle.scan.specs.Places.{bytes_in}
use Rattle.work.specs.Rows.{Only}
use Rattle.tables.specs.declared.tables.Bases.{Bases}
use Rattle.tables.specs.declared.tables.Counts.{Counts}
use Rattle.tables.specs.ByNumber.{segment_no, path_no, step_no, segments_of, steps_from}
use Rattle.normalize_tables.specs.declared.layout.Layout.{Layout}
use Rattle.normalize_tables.specs.declared.layout.Made.{Made}
use Rattle.normalize_tables.specs.declared.rows.NewStepWords.{NewStepWords}
use Rattle.normalize_tables.specs.News.{first_of, step_words, path_words, names_at, Agree}
use Rattle.normalize_tables.specs.NewByNumber.{new_steps_from, StepRoom, StepRows, step_span}
use Rattle.new_segs.specs.Makes.{made_at, Making, Frame}

-- ---- the steps

-- Rows of `count` equal new steps, from new step k on; only these rows have changed.
pub record EqualStepsPut (before work : List ℕ) (g : Layout) (k : ℕ) (r : NewStepWords) (count : ℕ) : Type 0 where
  pub nodes : (i : ℕ) → k ≤ i → i < k + count → (step_words work g i).node ≡ r.node
  pub marks : (i : ℕ) → k ≤ i → i < k + count → (step_words work g i).mark ≡ sign_of r.mark
  pub long : length work ≡ length before
  pub only : Only (step_span g k (k + count) ∷ []) before work

-- A name is that of a segment.
pub record KnownIn (ss : List Segment) (name : List ℕ) : Type 0 where
  pub number : ℕ
  pub is : segment_number ss name ≡ Some number

-- Step i names a segment of the text.
abbrev pub KnownStep : List ℕ → List ℕ → Bases → Counts → ℕ → Type 0
KnownStep text work b n i = KnownIn (segments_of text work b n) (step_no text work b i).name.bytes

-- So does each of the steps from `first` up to, not including, `end`.
pub record KnownSteps (text work : List ℕ) (b : Bases) (n : Counts) (first end : ℕ) : Type 0 where
  pub step : (i : ℕ) → first ≤ i → i < end → KnownStep text work b n i

-- The number of the segment that has a name.
pub record UnitIs (text work : List ℕ) (b : Bases) (n : Counts) (name : Place) (r : ℕ) : Type 0 where
  pub is : segment_number (segments_of text work b n) (bytes_in text name) ≡ Some r
  pub below : r < n.segs

-- ---- between two runs

-- The segments of the text are ss, and the runs on those of fs are folded that have two or more steps: so say the marks.
pub record Folds (ss fs : List Segment) (text work : List ℕ) (b : Bases) (n : Counts) (g : Layout) : Type 0 where
  pub segs : segments_of text work b n ≡ ss
  pub marks : (k : ℕ) (run : Run) → segment_number ss run.step.name.bytes ≡ Some k → k < n.segs → is_folded_run fs run ≡ (is_repeat run && eqb (get_or work (g.folded + k) 0) 1)

-- What holds of the new segments and of the rows of the new steps.
pub record Stage (text work : List ℕ) (b : Bases) (n : Counts) (g : Layout) (m : Made) : Type 0 where
  pub making : Making text work b n g (first_of m.first) m.segs
  pub steps : StepRows work n g m

-- There is room for what `count` steps become. It is asked with each call's own count; the calls within one run pass theirs down.
pub record Room (n : Counts) (m : Made) (count : ℕ) : Type 0 where
  pub few : m.steps + m.segs + count ≤ n.steps
  pub half : 2 * m.segs + count ≤ n.steps
  pub runs : m.runs + count ≤ n.steps

-- What `count` steps became: new segments and new steps behind the others, no more than there was room for; the rows of the first p new paths
-- are kept.
pub record Grown (text before work : List ℕ) (b : Bases) (n : Counts) (g : Layout) (p : ℕ) (m r : Made) (count : ℕ) : Type 0 where
  pub stage : Stage text work b n g r
  pub first : r.first ≡ m.first
  pub low : (m.segs ≤ r.segs) × (m.steps ≤ r.steps) × (m.runs ≤ r.runs)
  pub few : r.steps + r.segs ≤ m.steps + m.segs + count
  pub half : 2 * r.segs ≤ 2 * m.segs + count
  pub runs : r.runs ≤ m.runs + count
  pub names : Agree (n.segs + m.segs) (names_at text before b n g (first_of m.first) m.segs) (names_at text work b n g (first_of r.first) r.segs)
  pub frame : Frame g p m.steps before work

-- what stands in the tables: what was made, and the new steps from step t on
unfoldable pub stands_at : List Segment → List ℕ → List ℕ → Bases → Counts → Layout → Made → ℕ → Transformed
stands_at ss text work b n g m t =
    record {
      made = made_at ss text work b g (first_of m.first) m.segs;
      steps = new_steps_from (names_at text work b n g (first_of m.first) m.segs) work g t m.steps;
    }

-- ---- a run

-- A run of `count` steps on a segment is to be folded: it has two steps or more, and the segment has the mark.
pub record FoldedIs (work : List ℕ) (g : Layout) (unit count : ℕ) (r : Bool) : Type 0 where
  pub answer : r ≡ (leb 2 count && eqb (get_or work (g.folded + unit) 0) 1)
  pub long : r ≡ true → 2 ≤ count

-- A run of `count` steps on a segment, of an orientation.
pub record OnUnit (text work : List ℕ) (b : Bases) (unit count mark : ℕ) (run : Run) : Type 0 where
  pub name : run.step.name.bytes ≡ (segment_no text work b unit).id
  pub times : run.count ≡ count
  pub orientation : run.step.orientation ≡ mark

-- so many new segments, and otherwise what m says
abbrev pub with_segs : Made → ℕ → Made
with_segs m segs = record { first = m.first; segs = segs; steps = m.steps; runs = m.runs; changed = m.changed }

-- The node of the new segment of a unit and a run length, which is made where there is none; there is room for a step on it.
pub record TargetIs (text before work : List ℕ) (b : Bases) (n : Counts) (g : Layout) (m : Made) (unit count node segs : ℕ) : Type 0 where
  pub stage : Stage text work b n g (with_segs m segs)
  pub fits : node < n.segs + segs
  pub more : (m.segs ≤ segs) × (segs ≤ m.segs + 1)
  pub names : Agree (n.segs + m.segs) (names_at text before b n g (first_of m.first) m.segs) (names_at text work b n g (first_of m.first) segs)
  pub frame : Frame g n.paths m.steps before work
  pub folded : (run : Run) → run.step.name.bytes ≡ (segment_no text before b unit).id → run.count ≡ count
      → fold_run (segments_of text before b n) run (made_at (segments_of text before b n) text before b g (first_of m.first) m.segs)
      ≡ onto run (nth node (names_at text work b n g (first_of m.first) segs) []) (made_at (segments_of text before b n) text work b g (first_of m.first) segs)
  pub room : StepRoom work g (m.steps + 1)
  pub small : (node < 4294967296) × (m.steps < 4294967296) × (m.runs < 4294967296)

-- The run is folded into one step.
pub record FoldIs (text before work : List ℕ) (b : Bases) (n : Counts) (g : Layout) (m : Made) (unit count mark : ℕ) (r : Made) : Type 0 where
  pub grown : Grown text before work b n g n.paths m r count
  pub changed : r.changed ≡ m.changed
  pub runs : r.runs ≡ m.runs + 1
  pub folded : (run : Run) → OnUnit text before b unit count mark run
      → fold_run (segments_of text before b n) run (made_at (segments_of text before b n) text before b g (first_of m.first) m.segs)
      ≡ stands_at (segments_of text before b n) text work b n g r m.steps

-- The run keeps its steps.
pub record KeepIs (text before work : List ℕ) (b : Bases) (n : Counts) (g : Layout) (m : Made) (unit count mark : ℕ) (r : Made) : Type 0 where
  pub grown : Grown text before work b n g n.paths m r count
  pub changed : r.changed ≡ m.changed
  pub runs : r.runs ≡ m.runs
  pub kept : (run : Run) → OnUnit text before b unit count mark run
      → keep_run run (made_at (segments_of text before b n) text before b g (first_of m.first) m.segs)
      ≡ stands_at (segments_of text before b n) text work b n g r m.steps

-- The run of `count` steps from step i on is turned.
pub record TurnIs (text before work : List ℕ) (b : Bases) (n : Counts) (g : Layout) (m : Made) (i count : ℕ) (r : Made) : Type 0 where
  pub grown : Grown text before work b n g n.paths m r count
  pub changed : r.changed ≡ m.changed
  pub turned : (ss fs : List Segment) → Folds ss fs text before b n g
      → turn ss fs (record { step = step_no text before b i; count = count }) (made_at ss text before b g (first_of m.first) m.segs) ≡ stands_at ss text work b n g r m.steps
  pub runs : (ss fs : List Segment) → Folds ss fs text before b n g → r.runs ≡ m.runs + bit (is_folded_run fs (record { step = step_no text before b i; count = count }))

-- The runs of the steps from `first` up to `end` are turned.
pub record StepsTurned (text before work : List ℕ) (b : Bases) (n : Counts) (g : Layout) (m : Made) (first end : ℕ) (r : Made) : Type 0 where
  pub grown : Grown text before work b n g n.paths m r (end - first)
  pub changed : r.changed ≡ m.changed
  pub turned : (ss fs : List Segment) → Folds ss fs text before b n g
      → transform_runs ss fs (runs_of (steps_from text before b first end)) (made_at ss text before b g (first_of m.first) m.segs) ≡ stands_at ss text work b n g r m.steps
  pub runs : (ss fs : List Segment) → Folds ss fs text before b n g → r.runs ≡ m.runs + count_of (is_folded_run fs) (runs_of (steps_from text before b first end))

-- ---- a path

-- what was made, t, counts one changed path more than m did where runs were folded
abbrev pub with_path : Made → Made → Made
with_path m t = record { first = t.first; segs = t.segs; steps = t.steps; runs = t.runs; changed = m.changed + bit (ltb m.runs t.runs) }

-- Path p has become a new path: the new steps behind the others, and its row.
pub record NextIs (text before work : List ℕ) (b : Bases) (n : Counts) (g : Layout) (m : Made) (p : ℕ) (r : Made) : Type 0 where
  pub grown : Grown text before work b n g p m r (length (path_no text before b p).steps)
  pub first_step : (path_words work g p).first ≡ m.steps
  pub last_step : (path_words work g p).end ≡ r.steps
  pub turned : (ss fs : List Segment) → Folds ss fs text before b n g
      → transform_runs ss fs (runs_of (path_no text before b p).steps) (made_at ss text before b g (first_of m.first) m.segs) ≡ stands_at ss text work b n g r m.steps
  pub runs : (ss fs : List Segment) → Folds ss fs text before b n g → r.runs ≡ m.runs + count_of (is_folded_run fs) (runs_of (path_no text before b p).steps)
  pub changed : (ss fs : List Segment) → Folds ss fs text before b n g → r.changed ≡ m.changed + bit (any (is_folded_run fs) (runs_of (path_no text before b p).steps))
  pub few : r.changed ≤ m.changed + 1
