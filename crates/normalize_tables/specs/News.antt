-- New segments, new steps and new paths as rows of the work area. Document 01, "Folding", rules 4 and 5.
use Rattle.std.specs.Prelude.{ℕ, suc, ◌+◌, ◌*◌, ◌≤◌, ◌<◌, true, cond, List, [], ◌∷◌, ◌≡◌, ltb, get_or}
use Rattle.std.specs.Prelude.{Option, option_map, None, Some}
use Rattle.gfa_spec.specs.Bytes.{same, any, nth, repeat}
use Rattle.gfa_spec.specs.Decimal.{decimal, largest64}
use Rattle.gfa_spec.specs.Reading.{Segment, is_orientation}
use Rattle.normalize_spec.specs.Folding.{New, NewStep, sanitized, taken, none_made}
use Rattle.normalize_spec.specs.Links.{Key}
use Rattle.normalize_spec.specs.NewNames.{new_name}
use Rattle.work.specs.Rows.{rows_at}
use Rattle.tables.specs.declared.tables.Bases.{Bases}
use Rattle.tables.specs.declared.tables.Counts.{Counts}
use Rattle.tables.specs.ByNumber.{segment_no, segments_of}
use Rattle.normalize_tables.specs.declared.layout.Layout.{Layout}
use Rattle.normalize_tables.specs.declared.rows.NewSegmentWords.{NewSegmentWords}

-- ---- words

-- The words of a new step's row: its node's number, and its sign.
pub record StepEntry : Type 0 where
  pub node : ℕ
  pub mark : ℕ

-- The words of a new path's row: its first new step, and the one behind its last.
pub record PathEntry : Type 0 where
  pub first : ℕ
  pub end : ℕ

-- the words of new segment j, of new step k, of new path p
abbrev pub segment_words : List ℕ → Layout → ℕ → NewSegmentWords
segment_words work g j =
    record {
      unit = record { 0 = get_or work (g.segs + 4 * j) 0 };
      count = get_or work (g.segs + 4 * j + 1) 0;
      suffix = get_or work (g.segs + 4 * j + 2) 0;
    }

abbrev pub step_words : List ℕ → Layout → ℕ → StepEntry
step_words work g k = record { node = get_or work (g.steps + 2 * k) 0; mark = get_or work (g.steps + 2 * k + 1) 0 }

abbrev pub path_words : List ℕ → Layout → ℕ → PathEntry
path_words work g p = record { first = get_or work (g.paths + 2 * p) 0; end = get_or work (g.paths + 2 * p) 0 + get_or work (g.paths + 2 * p + 1) 0 }

-- ---- new segments

-- the first number that a new segment may have; the largest of all stands for none, as it is never used
unfoldable pub first_of : Option ℕ → ℕ
first_of None = largest64
first_of (Some m) = m

-- the first number of a text: the largest ID plus one, where every ID reads as a number
unfoldable pub first_number : List Segment → ℕ
first_number ss = first_of (none_made ss).next

-- the ID of new segment j: the j-th number from the first on while that may be used, else the name of its unit and run length with a suffix
unfoldable pub new_id_of : ℕ → ℕ → List ℕ → ℕ → ℕ → List ℕ
new_id_of first j unit count suffix = cond (ltb (first + j) largest64) (decimal (first + j)) (new_name unit count suffix)

-- the new segment that words stand for
abbrev pub new_of : List ℕ → List ℕ → Bases → ℕ → ℕ → NewSegmentWords → New
new_of text work b first j r =
    record {
      unit = (segment_no text work b r.unit.0).id;
      count = r.count;
      id = new_id_of first j (segment_no text work b r.unit.0).id r.count r.suffix;
      sequence = repeat r.count (segment_no text work b r.unit.0).sequence;
    }

-- new segment j, by its words
unfoldable pub new_at : List ℕ → Bases → Layout → ℕ → List ℕ → ℕ → New
new_at text b g first work j = new_of text work b first j (segment_words work g j)

-- the first q new segments
unfoldable pub news_at : List ℕ → List ℕ → Bases → Layout → ℕ → ℕ → List New
news_at text work b g first q = rows_at (new_at text b g first) 1 work 0 q

-- What a new segment's row may be relied on for: its unit is a segment of the text, and its run is one of a path.
pub record NewRow (n : Counts) (work : List ℕ) (at : ℕ) : Type 0 where
  pub unit : get_or work at 0 < n.segs
  pub count : get_or work (at + 1) 0 ≤ n.steps
  pub suffix : get_or work (at + 2) 0 ≤ n.segs + n.steps

-- ---- nodes

-- the IDs of the segments of the text, and of the first q new ones: a node's number is its place in this list
unfoldable pub names_at : List ℕ → List ℕ → Bases → Counts → Layout → ℕ → ℕ → List (List ℕ)
names_at text work b n g first q = taken (segments_of text work b n) (news_at text work b g first q)

-- the first place of a string in a list, counted from 0
unfoldable pub place_of : List (List ℕ) → List ℕ → Option ℕ
place_of [] x = None
place_of (y ∷ ys) x = cond (same y x) (Some 0) (option_map suc (place_of ys x))

-- The first so many names are the same.
pub record Agree (nodes : ℕ) (names names' : List (List ℕ)) : Type 0 where
  pub same_name : (k : ℕ) → k < nodes → nth k names' [] ≡ nth k names []

-- Each name that was made has the first suffix that was free: the names with smaller suffixes are taken, and the suffixes of one sanitized
-- unit and one run length rise.
pub record Suffixed (text work : List ℕ) (b : Bases) (n : Counts) (g : Layout) (first q : ℕ) : Type 0 where
  pub taken : (j s : ℕ) → j < q → largest64 ≤ first + j → s < (segment_words work g j).suffix
      → any (same (new_name (new_at text b g first work j).unit (new_at text b g first work j).count s)) (names_at text work b n g first q) ≡ true
  pub rising : (i j : ℕ) → i < j → j < q → largest64 ≤ first + i → sanitized (new_at text b g first work i).unit ≡ sanitized (new_at text b g first work j).unit
      → (new_at text b g first work i).count ≡ (new_at text b g first work j).count → (segment_words work g i).suffix < (segment_words work g j).suffix

-- ---- new steps and new paths

-- the new step whose row is at the word `at`: its node's number, and its orientation
unfoldable pub new_step_at : List (List ℕ) → List ℕ → ℕ → NewStep
new_step_at names work at = record { name = nth (get_or work at 0) names []; orientation = get_or work (at + 1) 0 }

-- the first n new steps of the table at `base`
unfoldable pub new_steps_at : List (List ℕ) → List ℕ → ℕ → ℕ → List NewStep
new_steps_at names work base n = rows_at (new_step_at names) 2 work base n

-- A new step's row has the number of a node, one of so many, with + or -.
pub record NewStepRow (nodes : ℕ) (work : List ℕ) (at : ℕ) : Type 0 where
  pub node : get_or work at 0 < nodes
  pub mark : is_orientation (get_or work (at + 1) 0) ≡ true

-- the new path whose row is at the word `at`: its first step, and how many it has; `steps` is the base of the new steps
unfoldable pub new_path_at : List (List ℕ) → ℕ → List ℕ → ℕ → List NewStep
new_path_at names steps work at = new_steps_at names work (steps + 2 * get_or work at 0) (get_or work (at + 1) 0)

-- the first n new paths of the table at `base`
unfoldable pub new_paths_at : List (List ℕ) → ℕ → List ℕ → ℕ → ℕ → List (List NewStep)
new_paths_at names steps work base n = rows_at (new_path_at names steps) 2 work base n

-- A new path's row has steps below `count`.
pub record NewPathRow (count : ℕ) (work : List ℕ) (at : ℕ) : Type 0 where
  pub steps : get_or work at 0 + get_or work (at + 1) 0 ≤ count

-- ---- added links

-- the added link whose word is at `at`: a new step's number, and the step behind it
unfoldable pub key_at : List (List ℕ) → ℕ → List ℕ → ℕ → Key
key_at names steps work at =
    record { from = new_step_at names work (steps + 2 * get_or work at 0); to = new_step_at names work (steps + 2 * (get_or work at 0 + 1)) }

-- the first n added links of the table at `base`
unfoldable pub keys_at : List (List ℕ) → ℕ → List ℕ → ℕ → ℕ → List Key
keys_at names steps work base n = rows_at (key_at names steps) 1 work base n

-- An added link's word is the number of a new step that has one behind it.
pub record KeyRow (count : ℕ) (work : List ℕ) (at : ℕ) : Type 0 where
  pub step : get_or work at 0 + 1 < count
