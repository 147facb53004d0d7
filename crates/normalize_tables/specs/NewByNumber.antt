-- Rows of the new segments, steps and paths by their numbers: what a row's number stands for, and what the words of a row say. Above this crate
-- no width and no place of such a row need be named.
use Rattle.std.specs.Prelude.{ℕ, ◌+◌, ◌*◌, ◌-◌, ◌≤◌, ◌<◌, Bool, ◌&&◌, List, [], ◌∷◌, ◌≡◌, Some, eqb, length, get_or}
use Rattle.std.specs.Option.{option_eq}
use Rattle.gfa_spec.specs.Bytes.{nth}
use Rattle.normalize_spec.specs.Folding.{NewStep}
use Rattle.scan.specs.Orientations.{sign_of}
use Rattle.gfa_spec.specs.Runs.{bit}
use Rattle.std.proofs.lemmas.List.Edits.{sets}
use Rattle.work.specs.Rows.{EachRow, Range, span, Only, word_of, number_in}
use Rattle.slots.specs.declared.slots.Slots.{Slots}
use Rattle.tables.specs.declared.path_steps.Steps.{Steps}
use Rattle.tables.specs.declared.tables.Bases.{Bases}
use Rattle.tables.specs.declared.tables.Counts.{Counts}
use Rattle.tables.specs.Tables.{Readable}
use Rattle.normalize_tables.specs.declared.layout.Layout.{Layout}
use Rattle.normalize_tables.specs.declared.layout.Made.{Made}
use Rattle.normalize_tables.specs.declared.rows.NewSegmentWords.{NewSegmentWords}
use Rattle.normalize_tables.specs.declared.rows.NewStepWords.{NewStepWords}
use Rattle.normalize_tables.specs.declared.rows.Ends.{Ends}
use Rattle.normalize_tables.specs.News.{StepEntry, PathEntry, segment_words, step_words, path_words, new_of, new_at, NewRow, new_step_at, new_steps_at, NewStepRow, new_path_at, new_paths_at, NewPathRow}

-- ---- numbers

-- new step k, and the new steps from number k up to, not including, `end`; `names` are the IDs of the nodes
abbrev pub new_step_no : List (List ℕ) → List ℕ → Layout → ℕ → NewStep
new_step_no names work g k = new_step_at names work (g.steps + 2 * k)

abbrev pub new_steps_from : List (List ℕ) → List ℕ → Layout → ℕ → ℕ → List NewStep
new_steps_from names work g k end = new_steps_at names work (g.steps + 2 * k) (end - k)

-- new path p, and the first p new paths
abbrev pub new_path_no : List (List ℕ) → List ℕ → Layout → ℕ → List NewStep
new_path_no names work g p = new_path_at names g.steps work (g.paths + 2 * p)

abbrev pub new_paths_to : List (List ℕ) → List ℕ → Layout → ℕ → List (List NewStep)
new_paths_to names work g p = new_paths_at names g.steps work g.paths p

-- the new paths from path p on
abbrev pub new_paths_from : List (List ℕ) → List ℕ → Counts → Layout → ℕ → List (List NewStep)
new_paths_from names work n g p = new_paths_at names g.steps work (g.paths + 2 * p) (n.paths - p)

-- the slots of new segments, one for each segment of the text, their unit; a new segment's own word is the last of its row
abbrev pub unit_slots : Counts → Layout → Slots
unit_slots n g = record { heads = g.last; count = n.segs; nexts = g.segs + 3; stride = 4 }

-- what the three words of link i say: the nodes at its ends, and 1 where it is removed
abbrev pub ends_no : List ℕ → Layout → ℕ → Ends
ends_no work g i =
    record {
      from = number_in (get_or work (g.ends + 3 * i) 0);
      to = number_in (get_or work (g.ends + 3 * i + 1) 0);
      gone = eqb (get_or work (g.ends + 3 * i + 2) 0) 1;
    }

-- these are the nodes at the ends of link i
abbrev pub joins : List ℕ → Layout → ℕ → ℕ → ℕ → Bool
joins work g i from to = option_eq eqb (ends_no work g i).from (Some from) && option_eq eqb (ends_no work g i).to (Some to)

-- the words of a link's ends
abbrev pub ends_words : Ends → List ℕ
ends_words r = word_of r.from ∷ word_of r.to ∷ bit r.gone ∷ []

-- the word behind the rows of the ends of the first i links
abbrev pub ends_end : Layout → ℕ → ℕ
ends_end g i = g.ends + 3 * i

-- ---- what is asked of a table

-- the rows of the first q new segments, of the first k new steps, of the first p new paths, of the ends of the first i links are in the work area
abbrev pub SegmentRoom : List ℕ → Layout → ℕ → Type 0
SegmentRoom work g q = g.segs + 4 * q ≤ length work

abbrev pub StepRoom : List ℕ → Layout → ℕ → Type 0
StepRoom work g k = g.steps + 2 * k ≤ length work

abbrev pub PathRoom : List ℕ → Layout → ℕ → Type 0
PathRoom work g p = g.paths + 2 * p ≤ length work

abbrev pub EndsRoom : List ℕ → Layout → ℕ → Type 0
EndsRoom work g i = ends_end g i ≤ length work

-- the rows of the first q new segments may be relied on; those of the first t new steps, which are on so many nodes, and of all; those of the
-- first p new paths, which have so many steps, and of all
abbrev pub SegmentRows : List ℕ → Counts → Layout → ℕ → Type 0
SegmentRows work n g q = EachRow (NewRow n) 4 work g.segs q

abbrev pub StepRowsTo : ℕ → List ℕ → Layout → ℕ → Type 0
StepRowsTo nodes work g t = EachRow (NewStepRow nodes) 2 work g.steps t

abbrev pub StepRows : List ℕ → Counts → Layout → Made → Type 0
StepRows work n g m = StepRowsTo (n.segs + m.segs) work g m.steps

abbrev pub PathRowsTo : ℕ → List ℕ → Layout → ℕ → Type 0
PathRowsTo steps work g p = EachRow (NewPathRow steps) 2 work g.paths p

abbrev pub PathRows : List ℕ → Counts → Layout → Made → Type 0
PathRows work n g m = PathRowsTo m.steps work g n.paths

-- new segment j, new step k, new path p is one of them
abbrev pub NewSegmentThere : List ℕ → Counts → Layout → ℕ → ℕ → Type 0
NewSegmentThere work n g q j = SegmentRoom work g q × SegmentRows work n g q × (j < q)

abbrev pub NewStepThere : List ℕ → Counts → Layout → Made → ℕ → Type 0
NewStepThere work n g m k = StepRoom work g m.steps × StepRows work n g m × (k < m.steps)

abbrev pub NewPathThere : List ℕ → Counts → Layout → Made → ℕ → Type 0
NewPathThere work n g m p = PathRoom work g n.paths × PathRows work n g m × (p < n.paths)

-- The segments of the text and q new ones may be named.
pub record Named (text work : List ℕ) (b : Bases) (n : Counts) (g : Layout) (q : ℕ) : Type 0 where
  pub readable : Readable text work b n
  pub room : SegmentRoom work g q
  pub few : q ≤ n.steps
  pub rows : SegmentRows work n g q

-- ---- rows

-- The words are those of new segment j.
pub record NewSegmentIs (text work : List ℕ) (b : Bases) (n : Counts) (g : Layout) (first j : ℕ) (r : NewSegmentWords) : Type 0 where
  pub words : r ≡ segment_words work g j
  pub new : new_at text b g first work j ≡ new_of text work b first j r
  pub unit : r.unit.0 < n.segs
  pub count : r.count ≤ n.steps
  pub suffix : r.suffix ≤ n.segs + n.steps

-- the words of a new step's row
abbrev pub step_entry : NewStepWords → StepEntry
step_entry s = record { node = s.node; mark = sign_of s.mark }

-- the new step that words stand for; `names` are the IDs of the nodes
abbrev pub step_in : List (List ℕ) → NewStepWords → NewStep
step_in names s = record { name = nth s.node names []; orientation = sign_of s.mark }

-- The words are those of new step k.
pub record NewStepIs (work : List ℕ) (n : Counts) (g : Layout) (m : Made) (k : ℕ) (r : NewStepWords) : Type 0 where
  pub words : step_entry r ≡ step_words work g k
  pub step : (names : List (List ℕ)) → new_step_no names work g k ≡ step_in names r
  pub node : r.node < n.segs + m.segs

-- the words of a new path
abbrev pub path_entry : Steps → PathEntry
path_entry s = record { first = s.first; end = s.end }

-- The steps are those of new path p: rows of the table of new steps.
pub record NewPathIs (work : List ℕ) (n : Counts) (g : Layout) (m : Made) (p : ℕ) (r : Steps) : Type 0 where
  pub words : path_entry r ≡ path_words work g p
  pub path : (names : List (List ℕ)) → new_path_no names work g p ≡ new_steps_from names work g r.first r.end
  pub high : r.end ≤ m.steps

-- two new steps have the same words: what `==` says of them, by `eq_steps` of proofs/NewByNumber
abbrev pub step_is : NewStepWords → NewStepWords → Bool
step_is s t = eqb s.node t.node && eqb (sign_of s.mark) (sign_of t.mark)

-- ---- rows that are put

-- the words of the rows from a number up to, not including, another
abbrev pub segment_span : Layout → ℕ → ℕ → Range
segment_span g j end = span (g.segs + 4 * j) (g.segs + 4 * end)

abbrev pub step_span : Layout → ℕ → ℕ → Range
step_span g k end = span (g.steps + 2 * k) (g.steps + 2 * end)

abbrev pub path_span : Layout → ℕ → ℕ → Range
path_span g p end = span (g.paths + 2 * p) (g.paths + 2 * end)

abbrev pub ends_span : Layout → ℕ → ℕ → Range
ends_span g i end = span (ends_end g i) (ends_end g end)

-- New segment j has these words; only its row has changed.
pub record NewSegmentPut (before work : List ℕ) (g : Layout) (j : ℕ) (r : NewSegmentWords) : Type 0 where
  pub words : segment_words work g j ≡ r
  pub long : length work ≡ length before
  pub only : Only (segment_span g j (j + 1) ∷ []) before work

-- So of new step k.
pub record NewStepPut (before work : List ℕ) (g : Layout) (k : ℕ) (r : NewStepWords) : Type 0 where
  pub words : step_words work g k ≡ step_entry r
  pub long : length work ≡ length before
  pub only : Only (step_span g k (k + 1) ∷ []) before work

-- So of new path p.
pub record NewPathPut (before work : List ℕ) (g : Layout) (p : ℕ) (r : Steps) : Type 0 where
  pub words : path_words work g p ≡ path_entry r
  pub long : length work ≡ length before
  pub only : Only (path_span g p (p + 1) ∷ []) before work

-- So of the ends of link i.
pub record EndsPut (before work : List ℕ) (g : Layout) (i : ℕ) (r : Ends) : Type 0 where
  pub words : ends_no work g i ≡ r
  pub row : work ≡ sets before (ends_end g i) (ends_words r)
  pub long : length work ≡ length before
  pub only : Only (ends_span g i (i + 1) ∷ []) before work

-- ---- rows that are kept

-- The words before `hi` are as they were.
pub record KeptTo (hi : ℕ) (before work : List ℕ) : Type 0 where
  pub word : (i : ℕ) → i < hi → get_or work i 0 ≡ get_or before i 0

-- So are the rows of the first q new segments, with their words of the slots, of the first t new steps, of the first p new paths.
pub record SegmentsKept (g : Layout) (q : ℕ) (before work : List ℕ) : Type 0 where
  pub row : (j : ℕ) → j < q → segment_words work g j ≡ segment_words before g j
  pub next : (j : ℕ) → j < q → get_or work (g.segs + 3 + 4 * j) 0 ≡ get_or before (g.segs + 3 + 4 * j) 0

pub record StepsKept (g : Layout) (t : ℕ) (before work : List ℕ) : Type 0 where
  pub row : (k : ℕ) → k < t → step_words work g k ≡ step_words before g k

pub record PathsKept (g : Layout) (p : ℕ) (before work : List ℕ) : Type 0 where
  pub row : (i : ℕ) → i < p → path_words work g i ≡ path_words before g i
