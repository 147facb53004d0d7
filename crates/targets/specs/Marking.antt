-- Marks of segments: set by names, kept by tests. Document 01, "Folding", rules 1 and 2.
use Rattle.std.specs.Prelude.{ℕ, zero, suc, ◌+◌, ◌-◌, ◌≤◌, ◌<◌, Bool, true, ◌&&◌, ◌||◌, List, [], ◌∷◌, ◌≡◌, eqb, leb, length, get_or}
use Rattle.gfa_spec.specs.Bytes.{same, any, count, distinct}
use Rattle.gfa_spec.specs.Reading.{Segment, Link}
use Rattle.gfa_spec.specs.Runs.{Run, runs, is_repeat, bit}
use Rattle.normalize_spec.specs.Folding.{self_linked, is_unit, repeats_on}
use Rattle.work.specs.Rows.{span, Only}
use Rattle.tables.specs.declared.tables.Bases.{Bases}
use Rattle.tables.specs.declared.tables.Counts.{Counts}
use Rattle.tables.specs.Segments.{ids_of}
use Rattle.scan.specs.declared.places.Place.{Place}
use Rattle.scan.specs.Places.{bytes_in}
use Rattle.tables.specs.ByNumber.{link_no, step_no, segments_of, links_to, paths_to, steps_from, tables_end}
use Rattle.runs.specs.Runs.{RunFrom}
use Rattle.tables.specs.Tables.{Readable}
use Rattle.normalize_tables.specs.declared.layout.Layout.{Layout}
use Rattle.normalize_tables.specs.Marks.{Marked}

-- ---- marks

-- What is asked before a segment is marked: the tables of a text in which no two segments have one ID, and a word for each segment behind them.
pub record Markable (text work : List ℕ) (b : Bases) (n : Counts) (marks : ℕ) : Type 0 where
  pub readable : Readable text work b n
  pub apart : distinct (ids_of (segments_of text work b n)) ≡ true
  pub behind : tables_end b n ≤ marks
  pub room : marks + n.segs ≤ length work

-- The segments that pass the test are marked too, and more may be.
pub record Adds (t : Segment → Bool) (text before work : List ℕ) (b : Bases) (n : Counts) (marks : ℕ) : Type 0 where
  pub ready : Markable text work b n marks
  pub marked : (p : Segment → Bool) → Marked p text before b n marks → Marked (λ s. p s || t s) text work b n marks
  pub long : length work ≡ length before
  pub only : Only (span marks (marks + n.segs) ∷ []) before work

-- The segment that has the name is marked too.
pub record NameMarked (text before work : List ℕ) (b : Bases) (n : Counts) (marks : ℕ) (name : Place) : Type 0 where
  pub adds : Adds (λ s. same s.id (bytes_in text name)) text before work b n marks

-- ---- rule 1: eligible

-- both ends of the link have the name
abbrev pub joins : Link → List ℕ → Bool
joins l name = same l.from name && same l.to name

-- The segment of link i is marked too, where that is a self-link.
pub record LinkMarked (text before work : List ℕ) (b : Bases) (n : Counts) (marks i : ℕ) : Type 0 where
  pub adds : Adds (λ s. joins (link_no text before b i) s.id) text before work b n marks

-- Of the marked segments those stay marked that may be folded.
pub record UnitsKept (cap : ℕ) (text before work : List ℕ) (b : Bases) (n : Counts) (marks : ℕ) : Type 0 where
  pub marked : (p : Segment → Bool) → Marked p text before b n marks → Marked (λ s. p s && is_unit cap s.sequence) text work b n marks
  pub long : length work ≡ length before
  pub only : Only (span marks (marks + n.segs) ∷ []) before work

-- The eligible segments are marked.
pub record MarkedIs (cap : ℕ) (text before work : List ℕ) (b : Bases) (n : Counts) (g : Layout) : Type 0 where
  pub marked : Marked (λ s. self_linked (links_to text before b n.links) s.id && is_unit cap s.sequence) text work b n g.eligible
  pub long : length work ≡ length before
  pub only : Only (span g.eligible (g.eligible + n.segs) ∷ []) before work

-- ---- rule 2: folded

-- a run of two or more on the node so named
abbrev pub is_run_on : List ℕ → Run → Bool
is_run_on name r = is_repeat r && same r.step.name.bytes name

-- What the answer for a run of `times` steps from step i on says: it is of two or more, and on a marked segment.
pub record OnMarked (text work : List ℕ) (b : Bases) (n : Counts) (marks i times : ℕ) (r : Bool) : Type 0 where
  pub answer : (p : Segment → Bool) → Marked p text work b n marks
      → r ≡ (leb 2 times && any (λ s. p s && same s.id (step_no text work b i).name.bytes) (segments_of text work b n))

-- Some segment is folded.
pub record AnyIs (text work : List ℕ) (b : Bases) (n : Counts) (g : Layout) (r : Bool) : Type 0 where
  pub answer : (p : Segment → Bool) → Marked p text work b n g.eligible
      → r ≡ any (λ s. p s && any (repeats_on s.id) (paths_to text work b n.paths)) (segments_of text work b n)

-- The steps from i to r are a maximal run; the segment it is on is marked too, where it is of two or more.
pub record NextMarked (text before work : List ℕ) (b : Bases) (n : Counts) (marks i end r : ℕ) : Type 0 where
  pub run : RunFrom text before b i end r
  pub adds : Adds (λ s. is_run_on s.id (record { step = step_no text before b i; count = r - i })) text before work b n marks

-- The segments are marked too that the steps have a run of two or more on.
pub record PathMarked (text before work : List ℕ) (b : Bases) (n : Counts) (marks first end : ℕ) : Type 0 where
  pub adds : Adds (λ s. any (is_run_on s.id) (runs (steps_from text before b first end))) text before work b n marks

-- 1 where both marks of segment i are set
abbrev pub both_at : List ℕ → Layout → ℕ → ℕ
both_at work g i = bit (eqb (get_or work (g.eligible + i) 0) 1 && eqb (get_or work (g.folded + i) 0) 1)

-- the sum of the first n numbers
unfoldable pub sum_to : (ℕ → ℕ) → ℕ → ℕ
sum_to f zero = 0
sum_to f (suc n) = sum_to f n + f n

-- The marks that are set twice are kept, and counted.
pub record BothKept (before work : List ℕ) (g : Layout) (count r : ℕ) : Type 0 where
  pub marks : (i : ℕ) → i < count → get_or work (g.folded + i) 0 ≡ both_at before g i
  pub total : r ≡ sum_to (both_at before g) count
  pub long : length work ≡ length before
  pub only : Only (span g.folded (g.folded + count) ∷ []) before work

-- The folded segments are marked and counted.
pub record MarkFoldedIs (text before work : List ℕ) (b : Bases) (n : Counts) (g : Layout) (r : ℕ) : Type 0 where
  pub marked : (p : Segment → Bool) → Marked p text before b n g.eligible
      → Marked (λ s. p s && any (repeats_on s.id) (paths_to text before b n.paths)) text work b n g.folded
  pub counted : (p : Segment → Bool) → Marked p text before b n g.eligible
      → r ≡ count (λ s. p s && any (repeats_on s.id) (paths_to text before b n.paths)) (segments_of text before b n)
  pub long : length work ≡ length before
  pub only : Only (span g.folded (g.folded + n.segs) ∷ []) before work
