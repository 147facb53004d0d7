-- The passes that mark the folded segments. Assumes nothing.
use Prim.Native.Nat.{ℕ, zero, suc, ◌+◌, ◌-◌, ◌≤◌, ◌<◌}
use native.Mathlib.Numerals.{add-one}
use native.Mathlib.Omega.{arith}
use mathlib.Core.Bool.{Bool, false, ◌&&◌, or-false}
use mathlib.Core.List.{List, [], ◌∷◌, ◌++◌, append_assoc}
use mathlib.Core.Logic.{inl}
use mathlib.Core.Path.{◌≡◌, refl, sym, ◌∙◌}
use lib.Dec.{eqb}
use mir.Val.{bool_byte}
use lib.ListN.{length, get_or, set}
use borrow.Author.Tests.{le-leb, lt-leb}
use Rattle.gfa_spec.specs.Bytes.{any, count as count_of}
use Rattle.gfa_spec.specs.Reading.{Segment}
use Rattle.gfa_spec.specs.Runs.{Run, runs, is_repeat, bit}
use Rattle.gfa_spec.proofs.Tests.{same_sym, any_append}
use Rattle.gfa_spec.proofs.Counting.{bit_byte, bit_set, count_one, count_append}
use Rattle.scan.specs.Places.{part_at, bytes_in}
use Rattle.normalize_spec.specs.Folding.{repeats_on}
use Rattle.work.specs.Rows.{span, Only, Cleared}
use Rattle.work.proofs.Rows.{only_then}
use Rattle.tables.specs.declared.tables.Bases.{Bases}
use Rattle.tables.specs.declared.tables.Counts.{Counts}
use Rattle.tables.specs.declared.rows.PathWords.{PathWords}
use Rattle.tables.specs.declared.rows.StepWords.{StepWords}
use Rattle.tables.specs.ByNumber.{segment_no, segments_to, paths_to, step_no, steps_from, PathIs, StepIs}
use Rattle.runs.specs.Runs.{RunFrom}
use Rattle.tables.proofs.ByNumber.{paths_more, steps_none, segment_stands, path_stands, step_stands, steps_stand, paths_zero, segments_zero, segments_more}
use Rattle.normalize_tables.specs.declared.layout.Layout.{Layout}
use Rattle.normalize_tables.specs.Layout.{Source}
use Rattle.normalize_tables.proofs.Sources.{source_behind}
use Rattle.normalize_tables.specs.Marks.{Marked}
use Rattle.tables.specs.declared.graph.Graph.{Graph}
use Rattle.targets.specs.declared.marks.Marker.{Marker}
use Rattle.targets.specs.Markers.{MarkerGraph, MarksName, MarksNext}
use Rattle.targets.proofs.Markers.{same_none, run_in, step_in}
use Rattle.targets.specs.Marking.{Markable, Adds, NameMarked, is_run_on, NextMarked, PathMarked, both_at, sum_to, BothKept, MarkFoldedIs}
use Rattle.work.proofs.Filling.{Filling, filling_start, filling_ahead, filling_behind, filling_more}
use Rattle.targets.proofs.Adding.{folded_marks, tables_kept, tables_same, marked_by, cleared_marks, adds_none, adds_alike, adds_then}

-- ---- a run

module _ {text w : List ℕ} {b : Bases} {n : Counts} {marks i end r : ℕ} (q : RunFrom text w b i end r) where
  pub next_short : Markable text w b n marks → r - i < 2 → NextMarked text w w b n marks i end r
  unfolding is_repeat
  next_short m h = record { run = q; adds = adds_alike (adds_none m) (λ s. rw (lt-leb 2 (r - i) h)) }

  pub next_marked : {w' : List ℕ} {s : StepWords} → 2 ≤ r - i → StepIs text w b i s → NameMarked text w w' b n marks s.name → NextMarked text w w' b n marks i end r
  unfolding is_repeat part_at
  next_marked {s = s} h e a =
      record { run = q; adds = adds_alike a.adds (λ t. rw (le-leb 2 (r - i) h, same_sym t.id (bytes_in text s.name), e.step)) }

-- what a marker makes of a run
module _ {m : Marker} {g : Graph} {i end r : ℕ} (o : MarkerGraph m g) (q : RunFrom g.text.now g.work.now g.b i end r) where
  pub passed_short : r - i < 2 → MarksNext m i end r m
  passed_short h = record { same = same_none; adds = next_short (run_in o q) m.markable h }

  pub passed_marked : {m' : Marker} {s : StepWords} → 2 ≤ r - i → StepIs g.text.now g.work.now g.b i s → MarksName m s.name m' → MarksNext m i end r m'
  passed_marked h e a = record { same = a.same; adds = next_marked (run_in o q) h (step_in o e) a.adds }

-- what the marking of a run goes on by
pub ruleset passing = (passed_short, passed_marked)

-- ---- the runs of a path

-- The state at step i: the segments of the runs before it are marked.
pub record Marking (text before work : List ℕ) (b : Bases) (n : Counts) (marks first end i : ℕ) : Type 0 where
  pub markable : Markable text before b n marks
  pub high : i ≤ end
  pub inside : end ≤ n.steps
  pub passed : List Run
  pub all : runs (steps_from text before b first end) ≡ passed ++ runs (steps_from text before b i end)
  pub adds : Adds (λ s. any (is_run_on s.id) passed) text before work b n marks

module _ {text before : List ℕ} {b : Bases} {n : Counts} {marks first end : ℕ} where
  pub marking_start : Markable text before b n marks × (first ≤ end) × (end ≤ n.steps) → Marking text before before b n marks first end first
  unfolding any
  marking_start h = record { markable = h.0; high = h.1; inside = h.2; passed = []; all = refl; adds = adds_none h.0 }

  module _ {work : List ℕ} {i : ℕ} (s : Marking text before work b n marks first end i) where
    pub marking_more : {work' : List ℕ} {r : ℕ} → i < end → NextMarked text work work' b n marks i end r → Marking text before work' b n marks first end r
    marking_more {r = r} h q =
        let t = s.markable.readable in
        let k = tables_kept s.markable s.adds.only in
        let run : Run = record { step = step_no text before b i; count = r - i } in
        let here = step_stands t k i (omega (arith, s.inside)) in
        record {
          markable = s.markable;
          high = q.run.high;
          inside = s.inside;
          passed = s.passed ++ (run ∷ []);
          all = s.all ∙ rw (append_assoc, ← steps_stand t k i end s.high s.inside, q.run.first, here, steps_stand t k r end q.run.high s.inside);
          adds =
              adds_alike (adds_then s.adds q.adds)
              (λ t. rw (any_append (is_run_on t.id) s.passed (run ∷ []), here) (unfold any in rw or-false));
        }

    pub marking_end : end ≤ i → PathMarked text before work b n marks first end
    marking_end h =
        let none_left : runs (steps_from text before b i end) ≡ [] = unfold runs in rw (steps_none text before b i end h) in
        record { adds = adds_alike s.adds (λ t. rw (s.all, none_left, any_append) (unfold any in rw or-false)) }

-- ---- the paths

-- The state at path p: the segments of the runs of the paths before it are marked.
pub record Visiting (text before work : List ℕ) (b : Bases) (n : Counts) (marks p : ℕ) : Type 0 where
  pub markable : Markable text before b n marks
  pub high : p ≤ n.paths
  pub adds : Adds (λ s. any (repeats_on s.id) (paths_to text before b p)) text before work b n marks

module _ {text before : List ℕ} {b : Bases} {n : Counts} {marks : ℕ} where
  pub visiting_start : Markable text before b n marks → Visiting text before before b n marks 0
  unfolding any
  visiting_start m = record { markable = m; high = omega arith; adds = rw paths_zero (adds_none m) }

  module _ {work : List ℕ} {p : ℕ} (s : Visiting text before work b n marks p) where
    pub visiting_more : {work' : List ℕ} {r : PathWords} → p < n.paths → PathIs text work b n p r → PathMarked text work work' b n marks r.steps.first r.steps.end
        → Visiting text before work' b n marks (p + 1)
    visiting_more h e q =
        let here = sym (path_stands s.markable.readable (tables_kept s.markable s.adds.only) p h) ∙ e.path in
        record {
          markable = s.markable;
          high = omega arith;
          adds = adds_alike (adds_then s.adds q.adds) (λ t. rw (paths_more, any_append, here) (unfold any repeats_on in rw or-false));
        }

-- ---- marks that are set twice

-- The state at segment i: the marks before it are kept where they are set twice, and counted.
pub record Keeping (before work : List ℕ) (g : Layout) (count i total : ℕ) : Type 0 where
  pub ahead : g.eligible + count ≤ g.folded
  pub small : count ≤ 2097152
  pub stored : Filling (both_at before g) before work g.folded count i
  pub sum : total ≡ sum_to (both_at before g) i
  pub few : total ≤ i

module _ {before : List ℕ} {g : Layout} {count : ℕ} where
  pub keeping_start : (g.eligible + count ≤ g.folded) × (g.folded + count ≤ length before) × (count ≤ 2097152) → Keeping before before g count 0 0
  unfolding sum_to
  keeping_start h = record { ahead = h.0; small = h.2; stored = filling_start h.1; sum = refl; few = omega arith }

  module _ {work : List ℕ} {i total : ℕ} (s : Keeping before work g count i total) where
    pub keeping_more : {x y : ℕ} {t : Bool} → i < count → t ≡ (eqb (get_or work (g.eligible + i) 0) 1 && eqb (get_or work (g.folded + i) 0) 1) → x ≡ bool_byte t → y ≡ bool_byte t
        → Keeping before (set work (g.folded + i) x) g count (i + 1) (total + y)
    keeping_more {x} {y} {t} h et ex ey =
        let one = bit_byte t ey in
        let here : bit t ≡ both_at before g i = rw (et, filling_behind s.stored (g.eligible + i) (omega (arith, s.ahead)), filling_ahead s.stored (g.folded + i) (omega arith)) in
        record {
          ahead = s.ahead;
          small = s.small;
          stored = filling_more s.stored x h ((bit_byte t ex).0 ∙ here);
          sum = rw (add-one, s.sum, one.0 ∙ here) (unfold sum_to in refl);
          few = omega (arith, s.few, one.1);
        }

-- marks are counted
sum_count : (text w : List ℕ) (b : Bases) (f : ℕ → ℕ) (t : Segment → Bool) (n : ℕ) → ((i : ℕ) → i < n → f i ≡ bit (t (segment_no text w b i))) → sum_to f n ≡ count_of t (segments_to text w b n)
unfolding sum_to
sum_count text w b f t zero h = rw segments_zero (unfold count_of in refl)
sum_count text w b f t (suc n) h =
    rw (← add-one n, segments_more text w b n, count_append t (segments_to text w b n) (segment_no text w b n ∷ []), sum_count text w b f t n (λ i l. h i (omega arith)), h n (omega arith), count_one)

-- ---- the folded segments

module _ {text w v u w' : List ℕ} {b : Bases} {n : Counts} {g : Layout} {r : ℕ} (s : Source text w b n g) (c : Cleared w v g.folded n.segs)
    (a : Adds (λ t. any (repeats_on t.id) (paths_to text v b n.paths)) text v u b n g.folded) (k : BothKept u w' g n.segs r) where
  -- only the marks of the folded segments change
  changed : Only (span g.folded (g.folded + n.segs) ∷ []) w u
  changed = only_then (span g.folded (g.folded + n.segs) ∷ []) c.only a.only (λ i o. (o, o))

  changed_all : Only (span g.folded (g.folded + n.segs) ∷ []) w w'
  changed_all = only_then (span g.folded (g.folded + n.segs) ∷ []) changed k.only (λ i o. (o, o))

  -- what the two marks of a segment say
  both_say : (p : Segment → Bool) → Marked p text w b n g.eligible → (i : ℕ) → i < n.segs
      → both_at u g i ≡ bit (p (segment_no text w b i) && any (repeats_on (segment_no text w b i).id) (paths_to text w b n.paths))
  both_say p m i h =
      let f = folded_marks s in
      let eligible : get_or u (g.eligible + i) 0 ≡ get_or w (g.eligible + i) 0 = changed.word (g.eligible + i) (inl (omega (arith, s.placed.folded)), tt) in
      let folded = (a.marked (λ t. false) (cleared_marks f c)).mark i h in
      rw (eligible, m.mark i h, bit_set, folded, bit_set, segment_stands f.readable (tables_kept f changed) i h, (tables_same f c.only).of_paths)

  pub folded_marked : MarkFoldedIs text w w' b n g r
  folded_marked =
      record {
        marked = λ p m. marked_by (folded_marks s) changed_all (λ t. p t && any (repeats_on t.id) (paths_to text w b n.paths)) (λ i h. k.marks i h ∙ both_say p m i h);
        counted = λ p m. k.total ∙ sum_count text w b (both_at u g) (λ t. p t && any (repeats_on t.id) (paths_to text w b n.paths)) n.segs (both_say p m);
        long = k.long ∙ a.long ∙ c.long;
        only = changed_all;
      }

-- where the work area comes back from a marker
module _ {text w v u x w' : List ℕ} {b : Bases} {n : Counts} {g : Layout} {r : ℕ} (s : Source text w b n g) (c : Cleared w v g.folded n.segs)
    (a : Adds (λ t. any (repeats_on t.id) (paths_to text v b n.paths)) text v u b n g.folded) (k : BothKept x w' g n.segs r) (e : x ≡ u) where
  pub folded_given : MarkFoldedIs text w w' b n g r
  folded_given = folded_marked s c a (rw e at k)

  -- and the tables stay
  pub folded_source : Source text w' b n g
  folded_source = let m = folded_given in source_behind s (omega (arith, s.placed)) m.only m.long
