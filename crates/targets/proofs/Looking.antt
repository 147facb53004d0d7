-- The search for a run of two or more on an eligible segment. Assumes nothing.
use Prim.Native.Nat.{ℕ, ◌+◌, ◌-◌, ◌≤◌, ◌<◌}
use native.Mathlib.Omega.{arith}
use mathlib.Core.Bool.{Bool, true, false, ◌&&◌, ◌||◌}
use mathlib.Core.List.{List}
use mathlib.Core.Path.{◌≡◌, refl, sym, ◌∙◌}
use lib.Dec.{eqb}
use lib.ListN.{get_or}
use borrow.Author.Tests.{le-leb}
use Rattle.gfa_spec.specs.Bytes.{same, any}
use Rattle.gfa_spec.specs.Reading.{Segment, Path}
use Rattle.gfa_spec.specs.Runs.{Run, runs, is_repeat}
use Rattle.gfa_spec.proofs.Tests.{same_sym}
use Rattle.gfa_spec.proofs.Counting.{bit_set}
use Rattle.scan.specs.Places.{part_at, bytes_in}
use Rattle.normalize_spec.specs.Folding.{repeats_on}
use Rattle.tables.specs.declared.tables.Bases.{Bases}
use Rattle.tables.specs.declared.tables.Counts.{Counts}
use Rattle.std.specs.Prelude.{Option, None, Some}
use Rattle.tables.specs.declared.entry.SegmentNo.{SegmentNo}
use Rattle.tables.specs.declared.rows.PathWords.{PathWords}
use Rattle.tables.specs.declared.rows.StepWords.{StepWords}
use Rattle.tables.specs.ByNumber.{segments_of, paths_to, paths_from, steps_from, PathIs, StepIs, NamedIs}
use Rattle.std.specs.declared.ops.Range.{Range}
use Rattle.runs.specs.declared.runs.Runs.{Runs}
use Rattle.runs.specs.Runs.{RunFrom}
use Rattle.runs.specs.RunsLeft.{RunsOf, FirstRun, NoRun}
use Rattle.runs.proofs.RunsLeft.{given_start, given_run, given_left, given_none}
use Rattle.tables.proofs.ByNumber.{paths_next, paths_none, steps_none}
use Rattle.normalize_tables.specs.declared.layout.Layout.{Layout}
use Rattle.normalize_tables.specs.Marks.{Marked}
use Rattle.normalize_tables.proofs.Lists.{any_alike, any_shared, any_swap}
use Rattle.tables.proofs.Named.{named_number, named_below, unnamed_number}
use Rattle.normalize_tables.proofs.Numbered.{passes_named, passes_none}
use Rattle.targets.specs.Marking.{Markable, is_run_on, OnMarked, AnyIs}

-- ---- runs on marked segments

module _ {text w : List ℕ} {b : Bases} {n : Counts} {marks i times : ℕ} {s : StepWords} {r : Option SegmentNo} (m : Markable text w b n marks) (long : 2 ≤ times)
    (q : StepIs text w b i s) (f : NamedIs text w b n s.name r) where
  pub marked_unknown : r ≡ None → OnMarked text w b n marks i times false
  unfolding part_at
  marked_unknown e =
      record {
        answer = λ p z. rw (le-leb 2 times long, q.step, passes_none text w b n m.apart (bytes_in text s.name) p (unnamed_number f e));
      }

  pub marked_known : {k mark : ℕ} → r ≡ Some (record { 0 = k }) → mark ≡ get_or w (marks + k) 0 → OnMarked text w b n marks i times (eqb mark 1)
  unfolding part_at
  marked_known {k} {mark} e em =
      let l = named_below f e in
      record {
        answer = λ p z. rw (
          le-leb 2 times long,
          q.step,
          passes_named text w b n m.apart (bytes_in text s.name) p k (named_number f e) l,
          em,
          z.mark k l,
          bit_set,
        );
      }

-- a run of two or more on a segment that passes
abbrev pub is_hit : (Segment → Bool) → List Segment → Run → Bool
is_hit p ss r = is_repeat r && any (λ s. p s && same s.id r.step.name.bytes) ss

-- a path has one
abbrev pub has_hit : (Segment → Bool) → List Segment → Path → Bool
has_hit p ss q = any (is_hit p ss) (runs q.steps)

-- a segment that passes has a run of two or more exactly if a path has such a run on one that passes
pub hits : (p : Segment → Bool) (ss : List Segment) (ps : List Path) → any (λ s. p s && any (repeats_on s.id) ps) ss ≡ any (has_hit p ss) ps
unfolding repeats_on
hits p ss ps = any_swap p (λ s q. repeats_on s.id q) ss ps ∙ any_alike path ps
  where
    turn : (a c d e : Bool) → d ≡ e → (a && (c && d)) ≡ (c && (a && e))
    turn true c d e z = rw z
    turn false true d e z = refl
    turn false false d e z = refl

    run : (r : Run) → any (λ s. p s && is_run_on s.id r) ss ≡ is_hit p ss r
    run r =
        any_alike (λ s. turn (p s) (is_repeat r) (same r.step.name.bytes s.id) (same s.id r.step.name.bytes) (same_sym r.step.name.bytes s.id)) ss
        ∙ any_shared (is_repeat r) (λ s. p s && same s.id r.step.name.bytes) ss

    path : (q : Path) → any (λ s. p s && repeats_on s.id q) ss ≡ has_hit p ss q
    path q = any_swap p (λ s r. is_run_on s.id r) ss (runs q.steps) ∙ any_alike run (runs q.steps)

-- ---- the search

-- The state at path p: no path before it has such a run.
pub record Looking (text work : List ℕ) (b : Bases) (n : Counts) (marks p : ℕ) : Type 0 where
  pub markable : Markable text work b n marks
  pub high : p ≤ n.paths
  pub left : (t : Segment → Bool) → Marked t text work b n marks
      → any (has_hit t (segments_of text work b n)) (paths_to text work b n.paths) ≡ any (has_hit t (segments_of text work b n)) (paths_from text work b n p)

-- At step i of path p, whose steps end before step `end`: nor has that path one before the step.
record Walked (text work : List ℕ) (b : Bases) (n : Counts) (marks p end i : ℕ) : Type 0 where
  markable : Markable text work b n marks
  here : p < n.paths
  high : i ≤ end
  inside : end ≤ n.steps
  left : (t : Segment → Bool) → Marked t text work b n marks
      → any (has_hit t (segments_of text work b n)) (paths_to text work b n.paths)
      ≡ (any (is_hit t (segments_of text work b n)) (runs (steps_from text work b i end)) || any (has_hit t (segments_of text work b n)) (paths_from text work b n (p + 1)))

-- The state of the loop over the runs of path p: the path has none before those that are left.
pub record Walking (text work : List ℕ) (b : Bases) (n : Counts) (marks p : ℕ) (it : Runs) : Type 0 where
  at : ℕ
  end : ℕ
  ahead : RunsOf text work b at end it
  walked : Walked text work b n marks p end at

module _ {text work : List ℕ} {b : Bases} {n : Counts} {marks : ℕ} where
  module _ {p : ℕ} (s : Looking text work b n marks p) where
    walked_start : {r : PathWords} → p < n.paths → PathIs text work b n p r → Walked text work b n marks p r.steps.end r.steps.first
    walked_start {r} h q =
        record {
          markable = s.markable;
          here = h;
          high = r.steps.ordered;
          inside = q.high;
          left = λ t m. s.left t m ∙ rw (paths_next text work b n p h, q.path) (unfold any in refl);
        }

    pub looking_end : n.paths ≤ p → (t : Segment → Bool) → Marked t text work b n marks
        → ◌≡◌ {A = Bool} false (any (has_hit t (segments_of text work b n)) (paths_to text work b n.paths))
    unfolding any
    looking_end h t q = sym (s.left t q ∙ rw (paths_none text work b n p h))

  module _ {p end i : ℕ} (s : Walked text work b n marks p end i) where
    walked_end : end ≤ i → Looking text work b n marks (p + 1)
    unfolding any runs
    walked_end h = let e = s.here in record { markable = s.markable; high = omega arith; left = λ t q. s.left t q ∙ rw (steps_none text work b i end h) }

    module _ {r : ℕ} {hit : Bool} (q : RunFrom text work b i end r) (o : OnMarked text work b n marks i (r - i) hit) where
      -- the run from step i, and the others
      first_run : (t : Segment → Bool) → Marked t text work b n marks
          → any (has_hit t (segments_of text work b n)) (paths_to text work b n.paths)
          ≡ ((hit || any (is_hit t (segments_of text work b n)) (runs (steps_from text work b r end))) || any (has_hit t (segments_of text work b n)) (paths_from text work b n (p + 1)))
      unfolding any is_repeat
      first_run t m = s.left t m ∙ rw (q.first, ← o.answer t m)

      walked_more : hit ≡ false → Walked text work b n marks p end r
      walked_more h = record { markable = s.markable; here = s.here; high = q.high; inside = s.inside; left = λ t m. first_run t m ∙ rw h }

      walked_hit : hit ≡ true → (t : Segment → Bool) → Marked t text work b n marks
          → ◌≡◌ {A = Bool} true (any (has_hit t (segments_of text work b n)) (paths_to text work b n.paths))
      walked_hit h t m = sym (first_run t m ∙ rw h)

-- ---- the answer, by segments

any_is : {text work : List ℕ} {b : Bases} {n : Counts} {g : Layout} {r : Bool} → ((t : Segment → Bool) → Marked t text work b n g.eligible
    → r ≡ any (has_hit t (segments_of text work b n)) (paths_to text work b n.paths)) → AnyIs text work b n g r
any_is {text} {work} {b} {n} h = record { answer = λ t m. h t m ∙ sym (hits t (segments_of text work b n) (paths_to text work b n.paths)) }

pub looked_none : {text work : List ℕ} {b : Bases} {n : Counts} {g : Layout} {p : ℕ} → Looking text work b n g.eligible p → n.paths ≤ p → AnyIs text work b n g false
looked_none s h = any_is (looking_end s h)

-- ---- the runs of a path

module _ {text work : List ℕ} {b : Bases} {n : Counts} {p : ℕ} where
  pub walking_start : {marks : ℕ} {q : PathWords} {of it : Runs} → Looking text work b n marks p → p < n.paths → PathIs text work b n p q → RunsOf text work b q.steps.first q.steps.end of → it ≡ of
      → Walking text work b n marks p it
  walking_start {q = q} s h is r e = record { at = q.steps.first; end = q.steps.end; ahead = rw e r; walked = walked_start s h is }

  module _ {marks : ℕ} {it it' : Runs} (s : Walking text work b n marks p it) where
    pub walking_end : NoRun it it' → Looking text work b n marks (p + 1)
    walking_end o = walked_end s.walked (given_none s.ahead o)

    pub walking_ready : {r : Range ℕ} → FirstRun it r it' → Markable text work b n marks × (r.start < n.steps)
    walking_ready f = let u = given_run s.ahead f in (s.walked.markable, omega (arith, given_start s.ahead f, u.low, u.high, s.walked.inside))

    module _ {r : Range ℕ} {times : ℕ} {hit : Bool} (f : FirstRun it r it') (t : times ≡ r.end - r.start) (o : OnMarked text work b n marks r.start times hit) where
      its_mark : OnMarked text work b n marks s.at (r.end - s.at) hit
      its_mark = rw (t, given_start s.ahead f) at o

      pub walking_more : hit ≡ false → Walking text work b n marks p it'
      walking_more h = record { at = r.end; end = s.end; ahead = given_left s.ahead f; walked = walked_more s.walked (given_run s.ahead f) its_mark h }

pub looked_hit : {text work : List ℕ} {b : Bases} {n : Counts} {g : Layout} {p times : ℕ} {it it' : Runs} {r : Range ℕ} {hit : Bool} → Walking text work b n g.eligible p it
    → FirstRun it r it' → times ≡ r.end - r.start → OnMarked text work b n g.eligible r.start times hit → hit ≡ true → AnyIs text work b n g true
looked_hit s f t o h = any_is (walked_hit s.walked (given_run s.ahead f) (its_mark s f t o) h)
