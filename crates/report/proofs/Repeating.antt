-- Totals over runs. Assumes nothing.
use Prim.Native.Nat.{ℕ, ◌+◌, ◌*◌, ◌-◌, ◌≤◌, ◌<◌}
use native.Mathlib.Omega.{arith}
use mathlib.Core.List.{List, ◌∷◌, map}
use mathlib.Core.Path.{◌≡◌, refl, sym, ap, subst, ◌∙◌}
use lib.Dec.{leb}
use lib.ListN.{length, length-append}
use Rattle.gfa_spec.specs.Bytes.{keep, join}
use Rattle.gfa_spec.specs.Runs.{Run, is_repeat, runs as runs_of}
use Rattle.gfa_spec.proofs.Tests.{by_test}
use Rattle.tables.specs.declared.tables.Bases.{Bases}
use Rattle.tables.specs.declared.tables.Counts.{Counts}
use Rattle.tables.specs.declared.rows.PathWords.{PathWords}
use Rattle.tables.specs.ByNumber.{path_no, step_no, paths_to, steps_from, PathIs}
use Rattle.std.specs.declared.ops.Range.{Range}
use Rattle.runs.specs.declared.runs.Runs.{Runs}
use Rattle.runs.specs.Runs.{RunFrom}
use Rattle.runs.specs.RunsLeft.{RunsOf, FirstRun, NoRun}
use Rattle.runs.proofs.RunsLeft.{given_start, given_run, given_left, given_none}
use Rattle.tables.specs.Tables.{Readable}
use Rattle.tables.proofs.ByNumber.{paths_zero, paths_more, steps_none}
use Rattle.report_spec.specs.Nodes.{repeats, longest as longest_of}
use Rattle.report.specs.declared.totals.Repeats.{Repeats}
use Rattle.report.specs.Totals.{with_run, repeats_with, RepeatsIs, AllRepeats}
use Rattle.tally.proofs.PathCounting.{joined_last, longest_append}

-- ---- the runs of a path

-- the two numbers are equal
pub same_repeats : {a b : Repeats} → a.runs ≡ b.runs → a.longest ≡ b.longest → a ≡ b
same_repeats p q = rw (p, q)

-- one run and the others
run_more : (t : Repeats) (r : Run) (rs : List Run) → repeats_with t (r ∷ rs) ≡ repeats_with (with_run t r.count) rs
unfolding keep is_repeat longest_of
run_more t r rs =
    by_test (leb 2 r.count)
    (λ e. rw e (same_repeats (omega arith) (omega arith)))
    (λ e. rw e)

-- a run adds at most one
run_few : (t : Repeats) (times : ℕ) → (with_run t times).runs ≤ t.runs + 1
run_few t times = by_test (leb 2 times) (λ e. rw e (omega arith)) (λ e. rw e (omega arith))

-- The runs before step i are counted.
record Repeated (text work : List ℕ) (b : Bases) (first end : ℕ) (before t : Repeats) (i : ℕ) : Type 0 where
  low : first ≤ i
  high : i ≤ end
  few : t.runs ≤ before.runs + (i - first)
  left : repeats_with before (runs_of (steps_from text work b first end)) ≡ repeats_with t (runs_of (steps_from text work b i end))

-- The state of the loop over runs: those before the ones that are left are counted.
pub record Repeating (text work : List ℕ) (b : Bases) (first end : ℕ) (before t : Repeats) (it : Runs) : Type 0 where
  at : ℕ
  ahead : RunsOf text work b at end it
  counted : Repeated text work b first end before t at

module _ {text work : List ℕ} {b : Bases} {first end : ℕ} {before : Repeats} where
  pub repeating_start : {of it : Runs} → first ≤ end → RunsOf text work b first end of → it ≡ of → Repeating text work b first end before before it
  repeating_start h r e = record { at = first; ahead = rw e r; counted = record { low = omega arith; high = h; few = omega arith; left = refl } }

  module _ {t : Repeats} {i : ℕ} (s : Repeated text work b first end before t i) where
    repeated_more : {r : ℕ} {u : Repeats} → RunFrom text work b i end r → u ≡ with_run t (r - i) → Repeated text work b first end before u r
    repeated_more {r} {u} q e =
        record {
          low = omega (arith, s.low, q.low);
          high = q.high;
          few = rw e (omega (arith, run_few t (r - i), s.few, s.low, q.low));
          left = s.left ∙ ap (repeats_with t) q.first ∙ run_more t (record { step = step_no text work b i; count = r - i }) (runs_of (steps_from text work b r end)) ∙ rw e;
        }

  module _ {t : Repeats} {it : Runs} (s : Repeating text work b first end before t it) where
    -- there is room for one run more
    pub repeating_few : before.runs + end < 4611686018427387904 → t.runs < 4611686018427387904
    repeating_few h = omega (arith, s.counted.few, s.counted.high)

    pub repeating_more : {it' : Runs} {r : Range ℕ} {u : Repeats} {times : ℕ} → FirstRun it r it' → times ≡ r.end - r.start → u ≡ with_run t times → Repeating text work b first end before u it'
    repeating_more {r} f n e =
        record {
          at = r.end;
          ahead = given_left s.ahead f;
          counted = repeated_more s.counted (given_run s.ahead f) (rw (n, given_start s.ahead f) at e);
        }

    pub repeating_end : {it' : Runs} → NoRun it it' → RepeatsIs text work b first end before t
    unfolding runs_of keep longest_of
    repeating_end n =
        let q = s.counted in
        record {
          is = sym (q.left ∙ rw (steps_none text work b s.at end (given_none s.ahead n)) (same_repeats (omega arith) (omega arith)));
          few = omega (arith, q.few, q.high);
        }

-- ---- of all paths

-- The state at path p: the paths before it are counted.
pub record Totalling (text work : List ℕ) (b : Bases) (t : Repeats) (p : ℕ) : Type 0 where
  pub few : t.runs ≤ p * 2097152
  pub runs : t.runs ≡ length (join (map repeats (paths_to text work b p)))
  pub longest : t.longest ≡ longest_of (join (map repeats (paths_to text work b p)))

module _ {text work : List ℕ} {b : Bases} where
  pub totalling_start : Totalling text work b (record { runs = 0; longest = 0 }) 0
  unfolding join longest_of
  totalling_start = record { few = omega arith; runs = rw (paths_zero text work b); longest = rw (paths_zero text work b) }

  module _ {n : Counts} {t : Repeats} {p : ℕ} (s : Totalling text work b t p) where
    pub totalling_more : {r : PathWords} {u : Repeats} → Readable text work b n → PathIs text work b n p r → RepeatsIs text work b r.steps.first r.steps.end t u → Totalling text work b u (p + 1)
    totalling_more {r} {u} l is q =
        let ps = paths_to text work b p in
        let pa = path_no text work b p in
        let here : keep is_repeat (runs_of (steps_from text work b r.steps.first r.steps.end)) ≡ repeats pa = unfold repeats in rw is.path in
        let rs = joined_last repeats ps pa in
        record {
          few = omega (arith, q.few, s.few, is.high, l.few.4);
          runs = ap (λ z. z.runs) q.is ∙ rw (paths_more text work b p, rs, length-append, here, s.runs);
          longest = ap (λ z. z.longest) q.is ∙ rw (paths_more text work b p, rs, longest_append, here, s.longest);
        }

    pub totalling_end : p ≤ n.paths → n.paths ≤ p → AllRepeats text work b n t
    totalling_end l h =
        let e : p ≡ n.paths = omega arith in
        record {
          runs = subst (λ k. t.runs ≡ length (join (map repeats (paths_to text work b k)))) e s.runs;
          longest = subst (λ k. t.longest ≡ longest_of (join (map repeats (paths_to text work b k)))) e s.longest;
        }
