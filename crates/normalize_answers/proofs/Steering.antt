-- A text of which some segment is folded: what each pass found is what document 01's rules say of the entries. Assumes nothing.
use Prim.Native.Nat.{ℕ}
use native.Mathlib.Omega.{arith}
use mathlib.Core.Bool.{Bool}
use mathlib.Core.List.{List, [], ◌∷◌}
use Rattle.std.specs.Prelude.{Some, Result, Ok, Err}
use mathlib.Core.Path.{◌≡◌, refl, sym, ◌∙◌}
use lib.ListN.{length}
use Rattle.gfa_spec.specs.Bytes.{count, keep}
use Rattle.gfa_spec.specs.Reading.{Entry}
use Rattle.gfa_spec.specs.Records.{segments, paths}
use Rattle.gfa_spec.specs.Services.{bad_step}
use Rattle.gfa_spec.proofs.Tests.{by_test}
use Rattle.normalize_spec.specs.Folding.{eligible, is_folded, folded}
use Rattle.normalize_spec.specs.Counting.{unchanged}
use Rattle.normalize_spec.specs.Services.{fold, normal_fitted}
use Rattle.normalize_spec.proofs.Demand.{fold_accepts}
use Rattle.refusals.specs.declared.refusal.Refusal.{Refusal}
use Rattle.refusals.specs.Refusals.{stated}
use Rattle.tables.specs.declared.tables.Bases.{Bases}
use Rattle.tables.specs.declared.tables.Counts.{Counts}
use Rattle.spelling.specs.Spelled.{BadStepIs}
use Rattle.normalize_tables.specs.declared.layout.Layout.{Layout}
use Rattle.normalize_tables.specs.Layout.{Source}
use Rattle.normalize_tables.specs.Marks.{Marked}
use Rattle.normalize_tables.proofs.Sources.{standing, kept_behind}
use Rattle.targets.specs.Marking.{MarkFoldedIs}
use Rattle.fold.specs.Transforms.{AllKnown}
use Rattle.fold.proofs.Knowns.{all_known}
use Rattle.normalize_answers.specs.declared.written.Written.{Written}
use Rattle.normalize_answers.specs.declared.stats.NormalizeSelfLoopsStats.{NormalizeSelfLoopsStats}
use Rattle.normalize_answers.specs.Counters.{counters}
use Rattle.normalize_answers.specs.Answered.{NormalTold}
use Rattle.normalize_answers.specs.Tied.{Tied}
use Rattle.normalize_answers.specs.Folding.{Marks, FoldTextIs, RewriteIs}
use Rattle.normalize_answers.proofs.Answering.{refuses}
use Rattle.normalize_answers.proofs.Tying.{tied_stands}

-- as many are kept as pass
keep_length : {A : Type 0} (p : A → Bool) (xs : List A) → length (keep p xs) ≡ count p xs
unfolding keep count
keep_length p [] = refl
keep_length p (x ∷ xs) = by_test (p x) (λ e. rw (e, keep_length p xs)) (λ e. rw (e, keep_length p xs))

-- ---- rule 2

module _ (es : List Entry) (cap : ℕ) {text w : List ℕ} {b : Bases} {n : Counts} {g : Layout} (t : Tied es text w b n) where
  -- the marks of the folded segments, and how many there are
  pub folded_marked : {w' : List ℕ} {r : ℕ} → MarkFoldedIs text w w' b n g r → Marked (eligible es cap) text w b n g.eligible → Marked (is_folded es cap) text w' b n g.folded
  unfolding is_folded
  folded_marked f m = rw t.of_paths at (f.marked (eligible es cap) m)

  pub folded_counted : {w' : List ℕ} {r : ℕ} → MarkFoldedIs text w w' b n g r → Marked (eligible es cap) text w b n g.eligible → r ≡ length (folded es cap)
  unfolding folded is_folded
  folded_counted f m = f.counted (eligible es cap) m ∙ rw (t.of_segments, t.of_paths) (sym (keep_length (is_folded es cap) (segments es)))

-- ---- some segment is folded

module _ {text w : List ℕ} {b : Bases} {n : Counts} {g : Layout} {stats : NormalizeSelfLoopsStats} {out : List ℕ} {k : Result (Unit {0}) Refusal} where
  -- a step is bad
  pub fold_bad : {q : Refusal} → BadStepIs text w b n k → k ≡ Err q → FoldTextIs text w b n g stats out out (Err q)
  unfolding fold normal_fitted
  fold_bad {q} h e = record { folds = λ es cap t m s. there es cap t }
    where
      there : (es : List Entry) (cap : ℕ) → Tied es text w b n → NormalTold out out (Err q) (normal_fitted (length out) (fold es cap (bad_step es (paths es))))
      there es cap t =
          let bad : bad_step es (paths es) ≡ Some (stated q) = rw e at (h.first es (sym t.of_segments) (sym t.of_paths)) in
          refuses q (normal_fitted (length out) (fold es cap (bad_step es (paths es)))) (rw bad)

  -- no step is bad
  pub fold_good : {w' out' : List ℕ} {nodes : ℕ} {u : Unit {0}} (r : Result Written Refusal) → Source text w b n g → BadStepIs text w b n k → k ≡ Ok u → MarkFoldedIs text w w' b n g nodes → RewriteIs text w' b n g nodes stats out out' r
      → FoldTextIs text w b n g stats out out' r
  fold_good {w'} {out'} {nodes} r source h e f x = record { folds = λ es cap t m s. there es cap t m s }
    where
      there : (es : List Entry) (cap : ℕ) → Tied es text w b n → Marked (eligible es cap) text w b n g.eligible → counters stats ≡ unchanged es
          → NormalTold out out' r (normal_fitted (length out) (fold es cap (bad_step es (paths es))))
      there es cap t m s =
          let good = rw e at (h.first es (sym t.of_segments) (sym t.of_paths)) in
          let kept = kept_behind source (omega (arith, source.placed)) f.only in
          rw (fold_accepts es cap good)
          (x.rewrites es cap (tied_stands t (standing source kept)) (folded_marked es cap t f m) (folded_counted es cap t f m) s)

-- ---- what the rewriting asks

-- known steps
pub steps_known : {es : List Entry} {text w w' : List ℕ} {b : Bases} {n : Counts} {g : Layout} {nodes : ℕ} {k : Result (Unit {0}) Refusal} {u : Unit {0}}
    → Source text w b n g → Tied es text w b n → BadStepIs text w b n k → k ≡ Ok u → MarkFoldedIs text w w' b n g nodes → AllKnown text w' b n
steps_known {es} {text} {w} {w'} {b} {n} s t h e f =
    let good = rw e at (h.first es (sym t.of_segments) (sym t.of_paths)) in
    let now = tied_stands t (standing s (kept_behind s (omega (arith, s.placed)) f.only)) in
    all_known es text w' b n (sym now.of_segments) (sym now.of_paths) good

-- and marks
pub marks_set : {text w w' : List ℕ} {b : Bases} {n : Counts} {g : Layout} {nodes : ℕ} → Marks text w b n g.eligible → MarkFoldedIs text w w' b n g nodes → Marks text w' b n g.folded
marks_set q f = record { test = _; marked = f.marked q.test q.marked }
