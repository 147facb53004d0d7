-- The loops over the runs of a path, and over the paths. Assumes nothing.
use Prim.Native.Nat.{ℕ, ◌+◌, ◌-◌, ◌≤◌, ◌<◌}
use native.Mathlib.Omega.{arith}
use mathlib.Core.List.{List, [], ◌∷◌, ◌++◌, map}
use mathlib.Core.Path.{◌≡◌, refl, sym, ap, subst, ◌∙◌}
use lib.ListN.{length}
use Rattle.gfa_spec.specs.Bytes.{sum, count, join}
use Rattle.gfa_spec.specs.Reading.{Path}
use Rattle.gfa_spec.specs.Runs.{runs}
use Rattle.gfa_spec.proofs.Runs.{sum_append}
use Rattle.tables.specs.declared.tables.Bases.{Bases}
use Rattle.tables.specs.declared.tables.Counts.{Counts}
use Rattle.tables.specs.declared.rows.PathWords.{PathWords}
use Rattle.tables.specs.ByNumber.{path_no, paths_to, paths_from, steps_from, tables_end, PathIs}
use Rattle.runs.specs.Counts.{over_rows}
use Rattle.tables.proofs.ByNumber.{TablesKept, paths_more, steps_none, path_stands, steps_stand, paths_zero, paths_length, steps_length, paths_cut}
use Rattle.report_spec.specs.Nodes.{total, longest}
use Rattle.nodes.proofs.Paths.{below_more}
use Rattle.nodes.specs.declared.counters.Counter.{Counter}
use Rattle.nodes.specs.Counters.{CounterFits, finish, CounterOf}
use Rattle.nodes.specs.Table.{counter_no, name_no, CountRows}
use Rattle.tally.specs.Tabled.{Tabled}
use Rattle.tally.specs.Visits.{FitRows, Countable, Passable, Recounted, NextCounted, PathCounted, PathsCounted}
use Rattle.tally.proofs.PathCounting.{counted_path}
use Rattle.tally.proofs.Visiting.{fit_less, recounted_none, recounted_then, recounted_below}

-- ---- the runs of a path

-- The state at step i: the runs before it are counted.
pub record Running (text before work : List ℕ) (b : Bases) (n : Counts) (m first end path i : ℕ) : Type 0 where
  pub passable : Passable text before b n m
  pub ready : Passable text work b n m
  pub high : i ≤ end
  pub last : end ≤ n.steps
  pub small : path < 2097152
  pub rows : (k : ℕ) → k < m →
      finish (name_no text before (tables_end b n) k) path (counter_no before (tables_end b n) k) (runs (steps_from text before b first end)) ≡
      finish (name_no text before (tables_end b n) k) path (counter_no work (tables_end b n) k) (runs (steps_from text before b i end))
  pub fits : (left : ℕ) → FitRows (left + (end - first)) path before (tables_end b n) m → FitRows (left + (end - i)) path work (tables_end b n) m
  pub fit : FitRows (end - i) path work (tables_end b n) m
  pub frame : Recounted before work (tables_end b n) m

module _ {text before : List ℕ} {b : Bases} {n : Counts} {m first end path : ℕ} where
  pub running_start : Passable text before b n m → first ≤ end → end ≤ n.steps → path < 2097152 → FitRows (end - first) path before (tables_end b n) m
      → Running text before before b n m first end path first
  running_start p h l s f = record { passable = p; ready = p; high = h; last = l; small = s; rows = λ k h. refl; fits = λ left e. e; fit = f; frame = recounted_none }

  module _ {work : List ℕ} {i : ℕ} (s : Running text before work b n m first end path i) where
    pub running_more : {work' : List ℕ} {r : ℕ} → NextCounted text work work' b n m i end path r → Running text before work' b n m first end path r
    running_more {work'} {r} q =
        let z : 0 + (end - i) ≡ end - i = omega arith in
        let y : 0 + (end - r) ≡ end - r = omega arith in
        record {
          passable = s.passable;
          ready = q.ready;
          high = q.high;
          last = s.last;
          small = s.small;
          rows = λ k h. s.rows k h ∙ row k h;
          fits = λ left e. q.fits left (s.fits left e);
          fit = rw y at (q.fits 0 (rw z s.fit));
          frame = recounted_then s.frame q.frame;
        }
      where
        same_steps : (j : ℕ) → j ≤ end → steps_from text work b j end ≡ steps_from text before b j end
        same_steps j h = steps_stand s.passable.readable (recounted_below s.frame b.lines) j end h s.last

        row : (k : ℕ) → k < m → finish (name_no text before (tables_end b n) k) path (counter_no work (tables_end b n) k) (runs (steps_from text before b i end)) ≡
            finish (name_no text before (tables_end b n) k) path (counter_no work' (tables_end b n) k) (runs (steps_from text before b r end))
        row k h = rw (s.frame.nodes_same k h, same_steps i s.high, same_steps r q.high) at (q.rows k h)

    pub running_end : end ≤ i → PathCounted text before work b n m first end path
    unfolding runs finish
    running_end h =
        record {
          rows = λ k l. sym (s.rows k l ∙ rw (steps_none text before b i end h));
          fits = λ left e. (let z : left + (end - i) ≡ left = omega arith in rw z at (s.fits left e));
          ready = s.ready;
          frame = s.frame;
        }

-- ---- the paths

-- the steps of paths
unfoldable pub steps_in : List Path → ℕ
steps_in ps = sum (map (λ p. length p.steps) ps)

-- of one list behind another
steps_append : (xs ys : List Path) → steps_in (xs ++ ys) ≡ steps_in xs + steps_in ys
unfolding steps_in
steps_append xs ys = sum_append (λ p. length p.steps) xs ys

-- The state at path p: the paths before it are counted.
pub record Passing (text before work : List ℕ) (b : Bases) (n : Counts) (m p : ℕ) : Type 0 where
  pub tabled : Tabled text before b n
  pub ready : Passable text work b n m
  pub high : p ≤ n.paths
  pub rows : CountRows text (paths_to text before b p) work (tables_end b n) m
  pub fits : FitRows (n.steps - steps_in (paths_to text before b p)) p work (tables_end b n) m
  pub frame : Recounted before work (tables_end b n) m

-- counters of no path fit
none_fits : {node : List ℕ} {c : Counter} {left : ℕ} → left ≤ 2097152 → CounterOf node [] c → CounterFits left 0 c
unfolding total sum count join longest
none_fits {c = c} h r =
    record {
      visits = omega (arith, r.visits);
      paths = omega (arith, r.paths);
      adjacent = omega (arith, r.adjacent);
      equal = omega (arith, r.equal);
      runs = omega (arith, r.runs);
      longest = omega (arith, r.longest);
      first = below_more _ _ c.first (omega arith) r.known;
    }

module _ {text before : List ℕ} {b : Bases} {n : Counts} {m : ℕ} where
  pub passing_start : Tabled text before b n → Countable text before (tables_end b n) m → CountRows text [] before (tables_end b n) m → Passing text before before b n m 0
  unfolding steps_in sum
  passing_start t c e =
      record {
        tabled = t;
        ready = record { readable = t.readable; countable = c };
        high = omega arith;
        rows = rw (paths_zero text before b) e;
        fits = rw (paths_zero text before b) (record { row = λ k h. none_fits (omega (arith, t.readable.few)) (e.row k h) });
        frame = recounted_none;
      }

  module _ {work : List ℕ} {p : ℕ} (s : Passing text before work b n m p) (h : p < n.paths) {r : PathWords} (is : PathIs text work b n p r) where
    kept : TablesKept b n before work
    kept = recounted_below s.frame b.lines

    -- its steps
    its_steps : (path_no text before b p).steps ≡ steps_from text work b r.steps.first r.steps.end
    its_steps = ap (λ q. q.steps) (sym (path_stands s.tabled.readable kept p h) ∙ is.path)

    -- the steps so far, with it
    steps_more : steps_in (paths_to text before b (p + 1)) ≡ steps_in (paths_to text before b p) + (r.steps.end - r.steps.first)
    steps_more = rw (paths_more text before b p, steps_append) (ap (λ k. steps_in (paths_to text before b p) + k) one)
      where
        one : steps_in (path_no text before b p ∷ []) ≡ r.steps.end - r.steps.first
        one = unfold steps_in sum in omega (arith, ap length its_steps, steps_length text work b r.steps.first r.steps.end)

    steps_all : steps_in (paths_to text before b (p + 1)) ≤ n.steps
    unfolding over_rows steps_in
    steps_all =
        let front = paths_to text before b (p + 1) in
        let back = paths_from text before b n (p + 1) in
        omega (arith, s.tabled.visits, ap steps_in (paths_cut text before b n (p + 1) (omega arith)), steps_append front back)

    pub passing_fits : FitRows (r.steps.end - r.steps.first) p work (tables_end b n) m
    passing_fits = fit_less s.fits (omega (arith, steps_more, steps_all)) (omega arith)

    pub passing_more : {work' : List ℕ} → PathCounted text work work' b n m r.steps.first r.steps.end p → Passing text before work' b n m (p + 1)
    passing_more {work'} q =
        let left = n.steps - steps_in (paths_to text before b (p + 1)) in
        record {
          tabled = s.tabled;
          ready = q.ready;
          high = omega arith;
          rows = record { row = row };
          fits = fit_less (q.fits left (fit_less s.fits (omega (arith, steps_more, steps_all)) (omega arith))) (omega arith) (omega arith);
          frame = recounted_then s.frame q.frame;
        }
      where
        row : (k : ℕ) → k < m → CounterOf (name_no text work' (tables_end b n) k) (paths_to text before b (p + 1)) (counter_no work' (tables_end b n) k)
        row k l =
            let ps = paths_to text before b p in
            let pa = path_no text before b p in
            let node = name_no text work (tables_end b n) k in
            let old = counter_no work (tables_end b n) k in
            let new : counter_no work' (tables_end b n) k ≡ finish node (length ps) old (runs pa.steps) = q.rows k l ∙ rw (its_steps, paths_length text before b p) in
            rw (paths_more text before b p, q.frame.nodes_same k l, new) (counted_path node ps pa old (s.rows.row k l))

  pub passing_end : {work : List ℕ} {p : ℕ} → Passing text before work b n m p → n.paths ≤ p → PathsCounted text before work b n m
  passing_end {work} {p} s h =
      let e : p ≡ n.paths = omega (arith, s.high) in
      record { rows = subst (λ k. CountRows text (paths_to text before b k) work (tables_end b n) m) e s.rows; frame = s.frame }
