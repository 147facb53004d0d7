-- Whether some segment is folded, and what is answered to the tables and to the text. Assumes nothing.
use Prim.Native.Nat.{ℕ}
use native.Mathlib.Omega.{arith}
use mathlib.Core.Bool.{Bool, true, false, not}
use mathlib.Core.List.{List, [], ◌∷◌}
use mathlib.Core.Path.{◌≡◌, refl, sym, ap, ◌∙◌}
use lib.ListN.{length}
use Rattle.gfa_spec.specs.Bytes.{is_empty, any, keep}
use Rattle.gfa_spec.specs.Reading.{Entry}
use Rattle.gfa_spec.specs.Records.{segments, self_links}
use Rattle.gfa_spec.specs.Runs.{over_paths, same_node_pairs, same_step_pairs, step_count}
use Rattle.gfa_spec.specs.Calls as calls
use Rattle.gfa_spec.proofs.Tests.{by_test}
use Rattle.normalize_spec.specs.Folding.{eligible, is_folded, folded}
use Rattle.normalize_spec.specs.Counting.{unchanged}
use Rattle.normalize_spec.specs.Services.{normal, normal_fitted, normalize_entries, normalize}
use Rattle.std.specs.Prelude.{Option, Some, None, Result, Ok, Err}
use Rattle.std.specs.Bool.{then_some}
use Rattle.refusals.specs.declared.refusal.Refusal.{Refusal}
use Rattle.normalize_answers.specs.declared.written.Written.{Written}
use Rattle.tables.specs.declared.tables.Bases.{Bases}
use Rattle.tables.specs.declared.tables.Counts.{Counts}
use Rattle.tables.specs.Entries.{entries_at}
use Rattle.reader.specs.Inputs.{InputIs}
use Rattle.runs.specs.Counts.{over_rows}
use Rattle.reader.proofs.Serving.{was_read}
use Rattle.normalize_tables.specs.declared.layout.Layout.{Layout}
use Rattle.normalize_tables.specs.Layout.{Placed, Source}
use Rattle.normalize_tables.specs.Marks.{Marked}
use Rattle.normalize_tables.proofs.Sources.{standing, kept_behind, source_behind}
use Rattle.targets.specs.Marking.{MarkedIs, AnyIs}
use Rattle.normalize_answers.specs.declared.stats.NormalizeSelfLoopsStats.{NormalizeSelfLoopsStats}
use Rattle.normalize_answers.specs.Counters.{counters, input_counters, InputStats}
use Rattle.normalize_answers.specs.Answered.{NormalTold}
use Rattle.normalize_answers.specs.Tied.{Tied}
use Rattle.normalize.specs.Loaded.{Loaded, DecidedSays, Decided}
use Rattle.normalize.specs.declared.services.Decision.{Decision}
use Rattle.normalize_answers.specs.Folding.{FoldTextIs}
use Rattle.normalize_answers.proofs.Answering.{refuses}
use Rattle.normalize_answers.proofs.Tying.{tied_stands, tied_itself}

-- ---- rules 1 to 3

-- nothing is kept where nothing passes
keep_empty : {A : Type 0} (p : A → Bool) (xs : List A) → is_empty (keep p xs) ≡ not (any p xs)
unfolding is_empty keep any
keep_empty p [] = refl
keep_empty p (x ∷ xs) = by_test (p x) (λ e. rw e) (λ e. rw e (keep_empty p xs))

module _ (es : List Entry) (cap : ℕ) {text w : List ℕ} {b : Bases} {n : Counts} {g : Layout} (t : Tied es text w b n) where
  -- the marks of the eligible segments
  pub eligible_marked : {w' : List ℕ} → MarkedIs cap text w w' b n g → Marked (eligible es cap) text w' b n g.eligible
  unfolding eligible
  eligible_marked m = rw t.of_links at m.marked

  -- whether some segment is folded
  pub any_is : {r : Bool} → AnyIs text w b n g r → Marked (eligible es cap) text w b n g.eligible → is_empty (folded es cap) ≡ not r
  unfolding folded is_folded
  any_is {r} a m =
      let found : r ≡ any (is_folded es cap) (segments es) = a.answer (eligible es cap) m ∙ rw (t.of_segments, t.of_paths) in
      keep_empty (is_folded es cap) (segments es) ∙ ap not (sym found)

-- the counters of a text that is returned as it is
pub stats_are : (es : List Entry) {text w : List ℕ} {b : Bases} {n : Counts} {r : NormalizeSelfLoopsStats} → Tied es text w b n → over_rows length text w b n ≡ n.steps → InputStats text w b n r
    → counters r ≡ unchanged es
unfolding unchanged input_counters self_links same_node_pairs same_step_pairs step_count over_paths over_rows
stats_are es t v s = s.counts ∙ rw (t.of_links, t.of_paths, ← v, t.of_paths)

-- ---- the decision

module _ {text w : List ℕ} {b : Bases} {n : Counts} {g : Layout} (l : Loaded text w b n) (p : Placed b n g (length w)) where
  pub loaded_source : Source text w b n g
  loaded_source = record { readable = l.readable; placed = p; apart = l.apart; visits = omega (arith, l.visits) }

  module _ {cap : ℕ} {w' : List ℕ} (m : MarkedIs cap text w w' b n g) where
    pub marked_source : Source text w' b n g
    marked_source = source_behind loaded_source (omega arith) m.only m.long

    marked_tied : Tied (entries_at text w b n.lines) text w' b n
    marked_tied = tied_stands l.tied (standing loaded_source (kept_behind loaded_source (omega arith) m.only))

    says : (found : Bool) → AnyIs text w' b n g found → DecidedSays text cap w' b n (then_some found g)
    says true a =
        let marked = eligible_marked (entries_at text w b n.lines) cap l.tied m in
        record {
          source = marked_source;
          marks = record { test = _; marked = m.marked };
          marked = rw marked_tied.entries marked;
          some = rw marked_tied.entries (any_is _ cap marked_tied a marked);
        }
    says false a = rw marked_tied.entries (any_is _ cap marked_tied a (eligible_marked (entries_at text w b n.lines) cap l.tied m))

    -- where the work area comes back
    pub decided : {stats : NormalizeSelfLoopsStats} {found : Bool} {o : Option Layout} {x : List ℕ} → InputStats text w b n stats → AnyIs text w' b n g found → o ≡ then_some found g → x ≡ w'
        → Decided text cap w x b n (record { stats = stats; folds = o })
    decided {found = found} i a f e =
        let same = marked_tied.entries in
        rw (f, e) (record { long = m.long; tied = tied_itself marked_tied; same = same; counted = rw same (stats_are _ l.tied l.visits i); says = says found a })

-- ---- the answer to the tables

module _ {text : List ℕ} {cap : ℕ} {w w' : List ℕ} {b : Bases} {n : Counts} {d : Decision} {out out' : List ℕ} (r : Result Written Refusal) (h : Decided text cap w w' b n d) where
  -- folded
  pub tables_folded : {g : Layout} → d.folds ≡ Some g → FoldTextIs text w' b n g d.stats out out' r
      → NormalTold out out' r (normal_fitted (length out) (normalize_entries text cap (calls.entries (entries_at text w b n.lines))))
  unfolding normalize_entries
  tables_folded e f = let s = rw e at h.says in rw (← h.same, s.some) (f.folds _ cap h.tied s.marked h.counted)

  -- returned
  pub tables_returned : d.folds ≡ None → NormalTold out out' r (normal_fitted (length out) (normal text (counters d.stats)))
      → NormalTold out out' r (normal_fitted (length out) (normalize_entries text cap (calls.entries (entries_at text w b n.lines))))
  unfolding normalize_entries
  tables_returned e f = let s = rw e at h.says in rw (← h.same, s, ← h.counted) f

-- ---- the answer to the text

-- the text is refused
pub text_refused : {text before work out : List ℕ} {k : Result (Bases × Counts) Refusal} {q : Refusal} (cap : ℕ) → InputIs text before work k → k ≡ Err q
    → NormalTold out out (Err q) (normalize text cap (length out) (length before))
unfolding normalize normalize_entries normal_fitted
text_refused {text} {before} {out = out} {q = q} cap h e =
    let says = ap (λ i. normal_fitted (length out) (normalize_entries text cap i)) (rw e at h.says) in
    refuses q (normalize text cap (length out) (length before)) says

-- and any other
pub text_answered : {text before work out out' : List ℕ} {k : Result (Bases × Counts) Refusal} {b : Bases} {n : Counts} (r : Result Written Refusal) (cap : ℕ) → InputIs text before work k → k ≡ Ok (b, n)
    → NormalTold out out' r (normal_fitted (length out) (normalize_entries text cap (calls.entries (entries_at text work b n.lines))))
    → NormalTold out out' r (normalize text cap (length out) (length before))
unfolding normalize
text_answered r cap h e a = rw (was_read h e).read a
