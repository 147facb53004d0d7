-- The pass over the steps: the counters after each run. Assumes nothing.
use Prim.Native.Nat.{ℕ, ◌+◌, ◌-◌, ◌≤◌, ◌<◌}
use native.Mathlib.Decide.{dec_lt, ℕ_discrete}
use native.Mathlib.Omega.{arith}
use mathlib.Core.Bool.{Bool, true, false, cond}
use mathlib.Core.List.{List, [], ◌∷◌}
use mathlib.Core.Logic.{inl}
use mathlib.Core.Path.{◌≡◌, refl, sym, ap, ◌∙◌}
use lib.Dec.{leb}
use lib.ListN.{length}
use Rattle.std.specs.Prelude.{Option, Some, None}
use Rattle.gfa_spec.specs.Bytes.{same}
use Rattle.gfa_spec.specs.Reading.{Step}
use Rattle.gfa_spec.specs.Runs.{Run, runs, bit}
use Rattle.gfa_spec.proofs.Tests.{by_test, same_equal, same_sym}
use Rattle.gfa_spec.proofs.Counting.{bit_small}
use Rattle.gfa_spec.proofs.Runs.{extend_first}
use Rattle.scan.specs.Places.{part_at, bytes_in}
use Rattle.scan.specs.Orientations.{sign_of}
use Rattle.work.specs.Rows.{span, Small, word_of}
use Rattle.work.proofs.Rows.{KeptWords, only_none, only_then, only_kept}
use Rattle.tables.specs.declared.tables.Bases.{Bases}
use Rattle.tables.specs.declared.tables.Counts.{Counts}
use Rattle.scan.specs.declared.places.Place.{Place}
use Rattle.tables.specs.declared.rows.StepWords.{StepWords}
use Rattle.tables.specs.ByNumber.{step_no, steps_from, tables_end, StepIs}
use Rattle.runs.specs.Runs.{RunFrom}
use Rattle.tables.proofs.ByNumber.{readable_stands, steps_none, steps_next}
use Rattle.report_spec.specs.Nodes.{on}
use Rattle.nodes.specs.declared.counters.Counter.{Counter}
use Rattle.nodes.specs.Counters.{is_path, is_longer, counted_of, counter_words, CounterFits, goes_on, finish}
use Rattle.nodes.specs.Table.{nodes_end, node_no, counter_no, name_no, RowPut, SearchIs}
use Rattle.nodes.proofs.Paths.{below_more, below_word}
use Rattle.nodes.proofs.Counting.{finish_here, finish_elsewhere}
use Rattle.nodes.proofs.Stored.{node_other, counter_other, put_within}
use Rattle.nodes.proofs.Finding.{found, nowhere}
use Rattle.tables.specs.Tables.{Readable}
use Rattle.tally.specs.Visits.{FitRows, Countable, Passable, Recounted, RunCounted, GoesOn, NextCounted}

-- ---- counters that change

pub recounted_none : {w : List ℕ} {table m : ℕ} → Recounted w w table m
recounted_none = record { nodes_same = λ k h. refl; long = refl; only = only_none }

module _ {w w' : List ℕ} {table m : ℕ} (r : Recounted w w' table m) where
  pub recounted_then : {v : List ℕ} → Recounted w' v table m → Recounted w v table m
  recounted_then c =
      record {
        nodes_same = λ k h. c.nodes_same k h ∙ r.nodes_same k h;
        long = c.long ∙ r.long;
        only = only_then (span table (nodes_end table m) ∷ []) r.only c.only (λ i o. (o, o));
      }

  pub recounted_below : (lo : ℕ) → KeptWords lo table w w'
  recounted_below lo = only_kept lo table r.only (inl (omega arith), tt)

  pub countable_stands : {text : List ℕ} → Countable text w table m → Countable text w' table m
  countable_stands c =
      record {
        names = record { room = rw r.long c.names.room; few = c.names.few; inside = λ k h. rw (r.nodes_same k h) (c.names.inside k h) };
        apart = record { differ = λ i j h k. rw (r.nodes_same i (omega arith), r.nodes_same j k) (c.apart.differ i j h k) };
      }

-- tables that may be read stand
pub run_readable : {text w w' : List ℕ} {b : Bases} {n : Counts} {table m : ℕ} → Readable text w b n → table ≡ tables_end b n → Recounted w w' table m → Readable text w' b n
run_readable {b = b} t at r = let q = rw at at r in readable_stands t (recounted_below q b.lines) r.long

pub passable_stands : {text w w' : List ℕ} {b : Bases} {n : Counts} {m : ℕ} → Recounted w w' (tables_end b n) m → Passable text w b n m → Passable text w' b n m
passable_stands r p = record { readable = run_readable p.readable refl r; countable = countable_stands r p.countable }

-- ---- numbers that fit

repeat_le : (times : ℕ) → 1 ≤ times → bit (leb 2 times) ≤ times
repeat_le times h = omega (arith, bit_small (leb 2 times))

module _ {left times path : ℕ} {c : Counter} (more : Bool) (f : CounterFits (left + times) path c) (t : 1 ≤ times) where
  fits_more : CounterFits left path (counted_of c times path more)
  fits_more =
      record {
        visits = omega (arith, f.visits);
        adjacent = omega (arith, f.adjacent, bit_small more);
        equal = omega (arith, f.equal);
        runs = omega (arith, f.runs, repeat_le times t);
        longest = by_test (is_longer c times) (λ e. rw e (omega arith)) (λ e. rw e (omega (arith, f.longest)));
        paths = by_test (is_path c.last path) (λ e. rw e (omega (arith, f.paths))) (λ e. rw e (omega (arith, f.paths)));
        first = by_test (is_longer c times) (λ e. rw e (omega arith)) (λ e. rw e f.first);
      }

-- with less left, or a later path, they fit too
fits_less : {left path less later : ℕ} {c : Counter} → CounterFits left path c → less ≤ left → path ≤ later → CounterFits less later c
fits_less {c = c} f h k = record { visits = omega (arith, f.visits); paths = f.paths; adjacent = f.adjacent; equal = f.equal; runs = f.runs; longest = f.longest; first = below_more _ _ c.first (omega arith) f.first }

pub fit_less : {left path less later : ℕ} {w : List ℕ} {table m : ℕ} → FitRows left path w table m → less ≤ left → path ≤ later → FitRows less later w table m
fit_less f h k = record { row = λ i l. fits_less (f.row i l) h k }

-- the counters with a run are small
pub counted_small : {times path : ℕ} {c : Counter} (more : Bool) → CounterFits times path c → 1 ≤ times → path < 2097152 → Small (counter_words (counted_of c times path more))
counted_small {times} {path} {c} more f t p =
    let none : 0 + times ≡ times = omega arith in
    let g : CounterFits 0 path (counted_of c times path more) = fits_more more (rw none f) t in
    let first = below_word _ (counted_of c times path more).first g.first in
    (omega (arith, g.visits), (omega (arith, g), (unfold word_of in omega arith, (omega (arith, g), (omega (arith, g), (omega (arith, g), (omega (arith, g), (omega (arith, first), tt))))))))

-- ---- a run

-- up to the node that has the name, rows stand in the work area, and their counters fit
module _ {text w : List ℕ} {table m k : ℕ} {name : Place} {q : Option ℕ} (f : SearchIs text w table m name q) (g : q ≡ Some k) where
  pub run_room : Countable text w table m → nodes_end table (k + 1) ≤ length w
  run_room c = omega (arith, c.names.room, found f g)

  pub run_fits_here : {times path j : ℕ} {c : Counter} → FitRows times path w table m → c ≡ counter_no w table j → j ≤ k → CounterFits times path c
  run_fits_here {j = j} e z l = rw z (e.row j (omega (arith, found f g)))

module _ {text w : List ℕ} {table m : ℕ} {name : Place} {q : Option ℕ} {times path : ℕ} {more : Bool} (f : SearchIs text w table m name q) where
  pub run_nowhere : q ≡ None → RunCounted text w w table m name times path more
  run_nowhere g = record { rows = λ k h. rw (same_sym (bytes_in text name) (name_no text w table k), (nowhere f g).other k h); frame = recounted_none }

  module _ {k : ℕ} (g : q ≡ Some k) where
    pub run_counted : {w' : List ℕ} {c d : Counter} → Countable text w table m → d ≡ counter_no w table k → c ≡ counted_of d times path more → RowPut w w' table k (node_no w table k) c
        → RunCounted text w w' table m name times path more
    run_counted {w'} {c} {d} a o e p =
        record {
          rows = λ j h. row j h (ℕ_discrete j k);
          frame = record { nodes_same = λ j h. node j (ℕ_discrete j k); long = p.long; only = put_within p (found f g).below };
        }
      where
        node : (j : ℕ) → Dec (j ≡ k) → node_no w' table j ≡ node_no w table j
        node j (yes z) = rw z p.words
        node j (no z) = node_other p j z

        other : (j : ℕ) → j < m → (j ≡ k → ⊥) → Dec (k < j) → same (name_no text w table k) (name_no text w table j) ≡ false
        other j h z (yes l) = a.apart.differ k j l h
        other j h z (no l) = same_sym (name_no text w table k) (name_no text w table j) ∙ a.apart.differ j k (omega arith) (found f g).below

        row : (j : ℕ) → j < m → Dec (j ≡ k) → counter_no w' table j
            ≡ cond (same (bytes_in text name) (name_no text w table j)) (counted_of (counter_no w table j) times path more) (counter_no w table j)
        row j h (yes z) = rw (z, same_sym (bytes_in text name) (name_no text w table k), (found f g).same_name, ← o) (p.counts ∙ e)
        row j h (no z) =
            let is : name_no text w table k ≡ bytes_in text name = same_equal (name_no text w table k) (bytes_in text name) (found f g).same_name in
            rw (← is, other j h z (dec_lt k j)) (counter_other p j z)

-- the counters still fit
run_fits : {text w w' : List ℕ} {table m : ℕ} {name : Place} {times path left : ℕ} {more : Bool} → RunCounted text w w' table m name times path more → 1 ≤ times →
    FitRows (left + times) path w table m → FitRows left path w' table m
run_fits {text} {w} {w'} {table} {m} {name} {times} {path} {left} {more} r t e =
    record { row = λ k h. rw (r.rows k h) (by_test (same (bytes_in text name) (name_no text w table k)) (λ s. rw s (fits_more more (e.row k h) t)) (λ s. rw s (fits_less (e.row k h) (omega arith) (omega arith)))) }

-- ---- the step behind a run

module _ {text w : List ℕ} {b : Bases} {name : Place} {r end : ℕ} where
  pub goes_no : end ≤ r → GoesOn text w b name r end false
  goes_no h = record { is = rw (steps_none text w b r end h) (unfold runs goes_on in refl) }

  pub goes_there : {s : StepWords} {t : Bool} → r < end → StepIs text w b r s → t ≡ same (bytes_in text name) (bytes_in text s.name) → GoesOn text w b name r end t
  goes_there {s} {t} h is e = record { is = rw (steps_next text w b r end h, is.step) (go (steps_from text w b (r + 1) end)) }
    where
      here : Step
      here = record { name = part_at text s.name.start s.name.size; orientation = sign_of s.mark }

      go : (ss : List Step) → t ≡ goes_on (bytes_in text name) (runs (here ∷ ss))
      go ss =
          let (k, more, f) = extend_first here (runs ss) in
          unfold runs in rw f (unfold goes_on on part_at in (e ∙ same_sym (bytes_in text name) (bytes_in text s.name)))

-- what tells whether it is on the name goes on by
pub ruleset going_on = (goes_no, goes_there)

-- ---- the next run

-- the node on which the next run is does not matter to one that has its name
goes_same : (a b : List ℕ) (rs : List Run) → same a b ≡ true → goes_on a rs ≡ goes_on b rs
goes_same a b rs e = rw (same_equal a b e)

module _ {text w : List ℕ} {b : Bases} {n : Counts} {m i end path r : ℕ} (u : RunFrom text w b i end r) where
  next_here : {w' : List ℕ} {s : StepWords} {more : Bool} → Passable text w b n m → StepIs text w b i s → GoesOn text w b s.name r end more
      → RunCounted text w w' (tables_end b n) m s.name (r - i) path more → NextCounted text w w' b n m i end path r
  next_here {w'} {s} {more} p is g c =
      record {
        rows = λ k h. rw u.first (row k h);
        fits = λ left e. run_fits c (omega (arith, u.low)) (let s : left + (end - r) + (r - i) ≡ left + (end - i) = omega (arith, u.low, u.high) in rw s e);
        low = u.low;
        high = u.high;
        ready = passable_stands c.frame p;
        frame = c.frame;
      }
    where
      name : (step_no text w b i).name.bytes ≡ bytes_in text s.name
      name = unfold part_at in rw is.step

      row : (k : ℕ) → k < m → finish (name_no text w (tables_end b n) k) path (counter_no w (tables_end b n) k) (record { step = step_no text w b i; count = r - i } ∷ runs (steps_from text w b r end)) ≡
          finish (name_no text w (tables_end b n) k) path (counter_no w' (tables_end b n) k) (runs (steps_from text w b r end))
      row k h =
          let node = name_no text w (tables_end b n) k in
          let st = step_no text w b i in
          let rs = runs (steps_from text w b r end) in
          let old = counter_no w (tables_end b n) k in
          let new = counter_no w' (tables_end b n) k in
          let is : new ≡ cond (on node st) (counted_of old (r - i) path more) old = unfold on in (rw (← name) at (c.rows k h)) in
          by_test (on node st)
          (λ t.
          let z : same st.name.bytes node ≡ true = unfold on in t in
          let e : new ≡ counted_of old (r - i) path (goes_on node rs) = is ∙ rw t (ap (counted_of old (r - i) path) (g.is ∙ goes_same (bytes_in text s.name) node rs (rw name at z))) in
          finish_here node path old (record { step = st; count = r - i }) rs t ∙ ap (λ d. finish node path d rs) (sym e))
          (λ t.
          let e : new ≡ old = is ∙ rw t in
          finish_elsewhere node path old (record { step = st; count = r - i }) rs t ∙ ap (λ d. finish node path d rs) (sym e))

  pub next_counted : {w' : List ℕ} {table : ℕ} {s : StepWords} {more : Bool} → Passable text w b n m → table ≡ tables_end b n → StepIs text w b i s → GoesOn text w b s.name r end more
      → RunCounted text w w' table m s.name (r - i) path more → NextCounted text w w' b n m i end path r
  next_counted p at is g c = next_here p is g (rw at at c)
