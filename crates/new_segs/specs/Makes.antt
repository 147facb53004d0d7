-- The table of new segments, and what one more does to it. Document 01, "Folding", rules 4 and 5.
use Rattle.std.specs.Prelude.{ℕ, zero, suc, ◌+◌, ◌*◌, ◌≤◌, ◌<◌, List, ◌≡◌, length, get_or}
use Rattle.std.specs.Prelude.{Option, None}
use Rattle.gfa_spec.specs.Decimal.{largest64}
use Rattle.gfa_spec.specs.Reading.{Segment}
use Rattle.gfa_spec.specs.Runs.{Run}
use Rattle.normalize_spec.specs.Folding.{Made, none_made, next_after, usable, new_id, new_segment, make_segment}
use Rattle.tables.specs.declared.tables.Bases.{Bases}
use Rattle.tables.specs.declared.tables.Counts.{Counts}
use Rattle.tables.specs.ByNumber.{segment_no, segments_of}
use Rattle.normalize_tables.specs.declared.layout.Layout.{Layout}
use Rattle.normalize_tables.specs.declared.rows.NewSegmentWords.{NewSegmentWords}
use Rattle.normalize_tables.specs.Layout.{Source}
use Rattle.normalize_tables.specs.News.{segment_words, first_number, new_id_of, new_at, news_at, names_at, Agree, Suffixed}
use Rattle.normalize_tables.specs.NewByNumber.{SegmentRoom, SegmentRows, KeptTo, StepsKept, PathsKept}
use Rattle.new_ids.specs.Ids.{SuffixIs}
use Rattle.new_segs.specs.Chains.{UnitsSlotted, MadeIs}

-- ---- what was made

-- the next number, if every ID reads as a number, behind q new segments
unfoldable pub next_at : List Segment → ℕ → Option ℕ
next_at ss zero = (none_made ss).next
next_at ss (suc q) = next_after (usable (next_at ss q))

-- the first q new segments of the table, and the next number
unfoldable pub made_at : List Segment → List ℕ → List ℕ → Bases → Layout → ℕ → ℕ → Made
made_at ss text work b g first q = record { new = news_at text work b g first q; next = next_at ss q }

-- What holds of a table of q new segments: its rows may be relied on, each name has the first suffix that was free, no two are of one unit
-- and one run length, and each is in the slot of its unit. Asked where one is sought and where a new segment's row is made; `News`, by which both
-- read, holds less, and so do others that read by it.
pub record Making (text work : List ℕ) (b : Bases) (n : Counts) (g : Layout) (first q : ℕ) : Type 0 where
  pub source : Source text work b n g
  pub first_is : first ≡ first_number (segments_of text work b n)
  pub half : 2 * q ≤ n.steps
  pub rows : SegmentRows work n g q
  pub suffixed : Suffixed text work b n g first q
  pub alone : (i j : ℕ) → i < j → j < q → (segment_words work g i).unit.0 ≡ (segment_words work g j).unit.0 → (segment_words work g i).count ≡ (segment_words work g j).count → ⊥
  pub slotted : UnitsSlotted work n g q

-- ---- one more

-- The suffix of new segment q, of a unit and a run length: 0 where its ID is a number, else the first that is free.
pub record SuffixFor (text work : List ℕ) (b : Bases) (n : Counts) (g : Layout) (first q unit count r : ℕ) : Type 0 where
  pub id : new_id_of first q (segment_no text work b unit).id count r
      ≡ new_id (names_at text work b n g first q) (segment_no text work b unit).id count (usable (next_at (segments_of text work b n) q))
  pub named : largest64 ≤ first + q → SuffixIs text work b n g first q unit count r
  pub few : r ≤ n.segs + q

-- What is asked before new segment q is made, of a unit and a run length: there is room for it, and none is of them yet.
pub record Wanted (text work : List ℕ) (b : Bases) (n : Counts) (g : Layout) (first q unit count : ℕ) : Type 0 where
  pub making : Making text work b n g first q
  pub there : unit < n.segs
  pub few : count ≤ n.steps
  pub room : 2 * q + 2 ≤ n.steps
  pub fresh : MadeIs work g q unit count None

-- The row of new segment q, of a unit and a run length; there is room for it, and its words fit, as does the number behind q.
pub record RowFor (text work : List ℕ) (b : Bases) (n : Counts) (g : Layout) (first q unit count : ℕ) (r : NewSegmentWords) : Type 0 where
  pub of_unit : r.unit.0 ≡ unit
  pub of_count : r.count ≡ count
  pub of_suffix : SuffixFor text work b n g first q unit count r.suffix
  pub room : SegmentRoom work g (q + 1)
  pub small : (r.count < 4294967296) × (r.suffix < 4294967296) × (q + 1 < 4294967296)

-- The words below the table of last new segments, the rows of the first p new paths and of the first t new steps, and the words behind all of
-- these tables are kept.
pub record Frame (g : Layout) (p t : ℕ) (before work : List ℕ) : Type 0 where
  pub long : length work ≡ length before
  pub low : KeptTo g.last before work
  pub paths : PathsKept g p before work
  pub steps : StepsKept g t before work
  pub high : (i : ℕ) → g.added ≤ i → get_or work i 0 ≡ get_or before i 0

-- New segment q is made, of a unit and a run length.
pub record SegmentMade (text before work : List ℕ) (b : Bases) (n : Counts) (g : Layout) (first q unit count : ℕ) : Type 0 where
  pub making : Making text work b n g first (q + 1)
  pub made : (run : Run) → run.step.name.bytes ≡ (segment_no text before b unit).id → run.count ≡ count
      → made_at (segments_of text before b n) text work b g first (q + 1)
      ≡ make_segment (segments_of text before b n) run (made_at (segments_of text before b n) text before b g first q)
  pub new : (run : Run) → run.step.name.bytes ≡ (segment_no text before b unit).id → run.count ≡ count
      → new_at text b g first work q ≡ new_segment (segments_of text before b n) run (made_at (segments_of text before b n) text before b g first q)
  pub names : Agree (n.segs + q) (names_at text before b n g first q) (names_at text work b n g first (q + 1))
  pub frame : Frame g n.paths n.steps before work
