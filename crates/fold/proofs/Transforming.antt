-- The transformation from its first path to its last. Assumes nothing.
use Prim.Native.Nat.{ℕ, ◌+◌, ◌≤◌, ◌<◌}
use native.Mathlib.Omega.{arith}
use mathlib.Core.Bool.{Bool, ◌&&◌}
use mathlib.Core.List.{List, [], ◌∷◌, map}
use mathlib.Core.Logic.{inl, inr, ⊎_elim}
use Rattle.std.specs.Prelude.{Option, Some}
use Rattle.gfa_spec.specs.Options.{map_or}
use mathlib.Core.Path.{◌≡◌, refl, sym, ap, ◌∙◌}
use lib.Dec.{eqb}
use lib.ListN.{get_or}
use Rattle.gfa_spec.specs.Bytes.{any, keep, sum, count as count_of}
use Rattle.gfa_spec.specs.Reading.{Segment}
use Rattle.gfa_spec.specs.Records.{segment_number}
use Rattle.gfa_spec.specs.Runs.{Run, runs as runs_of, is_repeat, bit}
use Rattle.gfa_spec.proofs.Counting.{bit_set}
use Rattle.normalize_spec.specs.Folding.{AllTransformed, is_folded_run, transform_paths, none_made}
use Rattle.normalize_spec.specs.Counting.{folded_runs}
use Rattle.normalize_spec.proofs.Marks.{kept_run}
use Rattle.normalize_spec.proofs.Onward.{before_paths, paths_start, paths_end}
use Rattle.work.specs.Rows.{rows_at}
use Rattle.work.proofs.Rows.{each_none}
use Rattle.slots.specs.Slots.{SlotsCleared}
use Rattle.tables.specs.declared.tables.Bases.{Bases}
use Rattle.tables.specs.declared.tables.Counts.{Counts}
use Rattle.tables.specs.Segments.{ids_of}
use Rattle.tables.specs.ByNumber.{segment_no, segments_of, paths_to, paths_from}
use Rattle.tables.specs.Tables.{Readable}
use Rattle.runs.specs.Counts.{over_rows}
use Rattle.tables.proofs.ByNumber.{paths_all, paths_none, segments_nth}
use Rattle.runs.proofs.Totals.{summed_start, summed_end}
use Rattle.normalize_tables.specs.declared.layout.Layout.{Layout}
use Rattle.normalize_tables.specs.declared.layout.Made.{Made}
use Rattle.normalize_tables.specs.Layout.{Source}
use Rattle.normalize_tables.specs.Marks.{Marked}
use Rattle.normalize_tables.specs.News.{segment_words, first_of, first_number, news_at, names_at, new_paths_at}
use Rattle.normalize_tables.specs.NewByNumber.{unit_slots, new_paths_to, KeptTo}
use Rattle.normalize_tables.specs.Rewritten.{NewRows, Folded}
use Rattle.new_segs.specs.Makes.{next_at, made_at, Making}
use Rattle.fold.specs.Turns.{Folds}
use Rattle.fold.specs.Transforms.{AllKnown, TransformIs}
use Rattle.new_segs.proofs.Keeping.{low_stands, source_low}
use Rattle.new_segs.proofs.Lookups.{no_segment}
use Rattle.fold.proofs.Growing.{folds_kept, all_known_kept, frame_none}
use Rattle.fold.proofs.Running.{count_cons}
use Rattle.fold.proofs.Passing.{Passing}

-- ---- the marks

-- Where the marks are those of a test, the segments that pass it are folded.
pub marks_fold : {text w : List ℕ} {b : Bases} {n : Counts} {g : Layout} (p : Segment → Bool) → Source text w b n g → Marked p text w b n g.folded
    → Folds (segments_of text w b n) (keep p (segments_of text w b n)) text w b n g
marks_fold {text} {w} {b} {n} {g} p s k = record { segs = refl; marks = marks }
  where
    marks : (i : ℕ) (run : Run) → segment_number (segments_of text w b n) run.step.name.bytes ≡ Some i → i < n.segs
        → is_folded_run (keep p (segments_of text w b n)) run ≡ (is_repeat run && eqb (get_or w (g.folded + i) 0) 1)
    marks i run e h =
        kept_run p (segments_of text w b n) no_segment run (unfold ids_of in s.apart)
        ∙ rw (e, k.mark i h, bit_set (p (segment_no text w b i))) (unfold map_or in rw (segments_nth text w b n.segs i no_segment h))

-- ---- before the first path

module _ {text before first : List ℕ} {b : Bases} {n : Counts} {g : Layout} (s : Source text before b n g) (c : SlotsCleared before first (unit_slots n g)) where
  cleared_low : KeptTo g.last before first
  cleared_low = record { word = λ i h. c.only.word i (inl h, tt) }

  cleared_source : Source text first b n g
  cleared_source = source_low s cleared_low c.long

  pub cleared_readable : Readable text first b n
  cleared_readable = cleared_source.readable

  -- nothing is made
  none_making : {f : Option ℕ} → f ≡ (none_made (segments_of text first b n)).next → Making text first b n g (first_of f) 0
  unfolding first_number
  none_making e =
      record {
        source = cleared_source;
        first_is = ap first_of e;
        half = omega arith;
        rows = each_none;
        suffixed = record { taken = λ j i h. absurd (omega arith); rising = λ i j h l. absurd (omega arith) };
        alone = λ i j h l. absurd (omega arith);
        slotted = c.slotted (λ j. (segment_words first g j).unit.0);
      }

  pub passing_start : {f : Option ℕ} → AllKnown text before b n → f ≡ (none_made (segments_of text first b n)).next
      → Passing text first first b n g (record { first = f; segs = 0; steps = 0; runs = 0; changed = 0 }) 0
  passing_start {f} k e =
      record {
        source = cleared_source;
        known = all_known_kept s cleared_low k;
        high = omega arith;
        stage = record { making = none_making e; steps = each_none };
        frame = frame_none;
        done = 0;
        summed = summed_start;
        few = omega arith;
        half = omega arith;
        few_runs = omega arith;
        few_changed = omega arith;
        rows = each_none;
        steps = unfold new_paths_at rows_at sum in refl;
        left = λ ss fs F. start ss fs;
        runs = λ ss fs F. summed_start;
        changed = λ ss fs F. summed_start;
      }
    where
      start : (ss fs : List Segment) → transform_paths ss fs (paths_to text first b n.paths) (none_made ss)
          ≡ before_paths (new_paths_to (names_at text first b n g (first_of f) 0) first g 0) (transform_paths ss fs (paths_from text first b n 0) (made_at ss text first b g (first_of f) 0))
      start ss fs =
          paths_start ss fs (paths_to text first b n.paths) (none_made ss)
          ∙ rw (paths_all text first b n) (unfold new_paths_at news_at rows_at made_at next_at none_made in refl)

-- ---- behind the last path

-- a count is a sum of bits
count_bits : {A : Type 0} (p : A → Bool) (xs : List A) → count_of p xs ≡ sum (map (λ x. bit (p x)) xs)
unfolding sum
count_bits p [] = unfold count_of in refl
count_bits p (x ∷ xs) = rw (count_cons p x xs, count_bits p xs)

module _ {text first work : List ℕ} {b : Bases} {n : Counts} {g : Layout} {m : Made} {p : ℕ} (s : Passing text first work b n g m p) (h : n.paths ≤ p) where
  last : p ≡ n.paths
  last = omega (arith, s.high)

  pub passing_rows : NewRows work n g m
  passing_rows =
      let all = s.summed.left in
      record {
        few = omega (arith, s.few, s.source.visits);
        half = omega (arith, s.half, s.source.visits);
        segs = s.stage.making.rows;
        steps = s.stage.steps;
        paths = rw last at s.rows;
      }

  transformed : (ss fs : List Segment) → Folds ss fs text first b n g → transform_paths ss fs (paths_to text first b n.paths) (none_made ss)
      ≡ record { made = made_at ss text work b g (first_of m.first) m.segs; paths = new_paths_to (names_at text work b n g (first_of m.first) m.segs) work g n.paths }
  transformed ss fs f =
      s.left ss fs f ∙ rw (paths_none text first b n p h, paths_end, last)

  pub passing_end : (fs : List Segment) → Folds (segments_of text first b n) fs text first b n g → Folded text work b n g fs m
  passing_end fs f =
      let st = low_stands s.source s.frame.low in
      let ss = segments_of text first b n in
      record {
        first = s.stage.making.first_is;
        news = rw (st.of_segments, st.of_paths) (sym (ap (λ (t : AllTransformed). t.made.new) (transformed ss fs f) ∙ (unfold made_at in refl)));
        paths = rw (st.of_segments, st.of_paths) (sym (ap (λ (t : AllTransformed). t.paths) (transformed ss fs f)));
        steps = rw last at s.steps;
        runs = rw st.of_paths (summed_end (s.runs ss fs f) h ∙ (unfold over_rows folded_runs in refl));
        changed = rw st.of_paths (summed_end (s.changed ss fs f) h ∙ (unfold over_rows in sym (count_bits (λ q. any (is_folded_run fs) (runs_of q.steps)) (paths_to text first b n.paths))));
      }

  -- the whole
  pub transform_is : {before : List ℕ} → Source text before b n g → SlotsCleared before first (unit_slots n g) → TransformIs text before work b n g m
  transform_is {before} o c =
      record {
        folds = λ t k. passing_end (keep t (segments_of text before b n)) (rw (low_stands o (cleared_low o c)).of_segments (folds_kept o (cleared_low o c) (marks_fold t o k)));
        rows = passing_rows;
        long = s.frame.long ∙ c.long;
        only = record { word = λ i l. ⊎_elim (λ k. s.frame.low.word i k ∙ c.only.word i (inl k, tt)) (λ k. s.frame.high i k ∙ c.only.word i (inr (behind i k), tt)) l.0 };
      }
    where
      behind : (i : ℕ) → g.added ≤ i → g.last + n.segs ≤ i
      behind i k = let q = o.placed in omega (arith, q.paths, q.segs, q.steps, q.added)
