-- The pass over new steps that counts adjacent pairs. Assumes nothing.
use Prim.Native.Nat.{ℕ, ◌+◌, ◌*◌, ◌-◌, ◌≤◌, ◌<◌}
use native.Mathlib.Omega.{arith}
use mathlib.Core.Bool.{Bool, true, ◌&&◌}
use mathlib.Core.List.{List, map}
use mathlib.Core.Path.{◌≡◌, sym, ap, ◌∙◌}
use mir.Val.{bool_byte}
use denote.Enum.Bare.{sameb}
use Rattle.scan.specs.contracts.orientation.Orientation.{the_type}
use lib.Dec.{eqb}
use lib.ListN.{length}
use Rattle.gfa_spec.specs.Bytes.{sum, distinct}
use Rattle.gfa_spec.specs.Runs.{bit, pairs}
use Rattle.normalize_spec.specs.Folding.{NewStep, same_new_node, same_new_step}
use Rattle.runs.specs.declared.counts.Pairs.{Pairs}
use Rattle.tables.specs.declared.tables.Counts.{Counts}
use Rattle.tables.specs.Tables.{Few}
use Rattle.normalize_tables.specs.declared.layout.Layout.{Layout}
use Rattle.normalize_tables.specs.declared.layout.Made.{Made}
use Rattle.normalize_tables.specs.declared.rows.NewStepWords.{NewStepWords}
use Rattle.tables.specs.declared.path_steps.Steps.{Steps}
use Rattle.normalize_tables.specs.Rewritten.{NewRows}
use Rattle.normalize_tables.specs.NewByNumber.{new_step_no, new_steps_from, new_path_no, new_paths_to, new_paths_from, NewStepIs, NewPathIs, step_is}
use Rattle.normalize_tables.proofs.Nodes.{same_place}
use Rattle.normalize_tables.proofs.NewByNumber.{eq_steps, new_steps_next, new_steps_length, new_paths_all, new_paths_next, new_paths_none}
use Rattle.fold.specs.Pairings.{NewPairsIs, NewPairTotals}
use Rattle.gfa_spec.proofs.Counting.{bit_byte}
use Rattle.gfa_spec.proofs.Runs.{pairs_none, pairs_cons}

-- ---- the pairs of a list, row by row

-- The pairs of the new steps from `first` up to `end` are x, and those of the steps from k - 1 on.
pub record Paired (p : NewStep → NewStep → Bool) (names : List (List ℕ)) (work : List ℕ) (g : Layout) (first end k x : ℕ) : Type 0 where
  pub left : pairs p (new_steps_from names work g first end) ≡ x + pairs p (new_steps_from names work g (k - 1) end)

module _ {p : NewStep → NewStep → Bool} {names : List (List ℕ)} {work : List ℕ} {g : Layout} {first end : ℕ} where
  paired_start : Paired p names work g first end (first + 1) 0
  paired_start = let here : first + 1 - 1 ≡ first = omega arith in record { left = rw here (omega arith) }

  paired_more : {k x y : ℕ} → Paired p names work g first end k x → 1 ≤ k → k < end → y ≡ bit (p (new_step_no names work g (k - 1)) (new_step_no names work g k))
      → Paired p names work g first end (k + 1) (x + y)
  paired_more {k} {x} {y} h l u e =
      let next : k - 1 + 1 ≡ k = omega arith in
      let here : k + 1 - 1 ≡ k = omega arith in
      let before = new_steps_next names work g (k - 1) end (omega arith) in
      let after = new_steps_next names work g k end u in
      record { left = h.left ∙ rw (before, next, after, here, after, pairs_cons, e) (omega arith) }

  paired_end : {k x : ℕ} → Paired p names work g first end k x → end ≤ k → x ≡ pairs p (new_steps_from names work g first end)
  paired_end {k} {x} h u =
      let none_left = pairs_none p (new_steps_from names work g (k - 1) end) (rw (new_steps_length names work g (k - 1) end) (omega arith)) in
      omega (arith, h.left, none_left)

-- ---- new steps by their words

module _ {work : List ℕ} {n : Counts} {g : Layout} {m : Made} {i k : ℕ} {s t : NewStepWords} (x : NewStepIs work n g m i s) (y : NewStepIs work n g m k t)
    (names : List (List ℕ)) (d : distinct names ≡ true) (e : length names ≡ n.segs + m.segs) where
  -- they are on one node where their numbers are equal
  nodes_equal : same_new_node (new_step_no names work g i) (new_step_no names work g k) ≡ eqb s.node t.node
  unfolding same_new_node
  nodes_equal = rw (x.step names, y.step names) (same_place names s.node t.node d (rw e x.node) (rw e y.node))

  -- and equal where their orientations are too
  steps_equal : same_new_step (new_step_no names work g i) (new_step_no names work g k) ≡ step_is s t
  unfolding same_new_step
  steps_equal = rw (nodes_equal, x.step names, y.step names)

-- The state of the pair count at k.
pub record Pairing (work : List ℕ) (n : Counts) (g : Layout) (m : Made) (first end k nodes steps : ℕ) : Type 0 where
  pub low : first + 1 ≤ k
  pub high : k ≤ end + 1
  pub few : (nodes + first < k) × (steps + first < k)
  pub on_nodes : (names : List (List ℕ)) → distinct names ≡ true → length names ≡ n.segs + m.segs → Paired same_new_node names work g first end k nodes
  pub on_steps : (names : List (List ℕ)) → distinct names ≡ true → length names ≡ n.segs + m.segs → Paired same_new_step names work g first end k steps

module _ {work : List ℕ} {n : Counts} {g : Layout} {m : Made} {first end : ℕ} where
  pub pairing_start : first ≤ end → Pairing work n g m first end (first + 1) 0 0
  pairing_start h = record { low = omega arith; high = omega arith; few = (omega arith, omega arith); on_nodes = λ names d e. paired_start; on_steps = λ names d e. paired_start }

  module _ {k nodes steps : ℕ} (s : Pairing work n g m first end k nodes steps) where
    pub pairing_more : {v w : NewStepWords} {x : Bool} {y z : ℕ} → k < end → NewStepIs work n g m (k - 1) v → NewStepIs work n g m k w → y ≡ bool_byte (eqb v.node w.node)
        → x ≡ (eqb v.node w.node && sameb the_type v.mark w.mark) → z ≡ bool_byte x → Pairing work n g m first end (k + 1) (nodes + y) (steps + z)
    pairing_more {v = v} {w = w} {x = x} u a b p f q =
        record {
          low = omega (arith, s.low);
          high = omega arith;
          few = (omega (arith, s.few, bit_byte _ p), omega (arith, s.few, bit_byte _ q));
          on_nodes = λ names d e. paired_more (s.on_nodes names d e) (omega (arith, s.low)) u ((bit_byte _ p).0 ∙ ap bit (sym (nodes_equal a b names d e)));
          on_steps = λ names d e. paired_more (s.on_steps names d e) (omega (arith, s.low)) u ((bit_byte _ q).0 ∙ ap bit (f ∙ eq_steps v w ∙ sym (steps_equal a b names d e)));
        }

    pub pairing_end : end ≤ k → first ≤ end → NewPairsIs work n g m first end (record { nodes = nodes; steps = steps })
    pairing_end u l =
        record {
          nodes = λ names d e. paired_end (s.on_nodes names d e) u;
          steps = λ names d e. paired_end (s.on_steps names d e) u;
          few = (omega (arith, s.few, s.high), omega (arith, s.few, s.high));
        }

-- ---- all new paths

-- The sum over the new paths is x, and that over the paths from path i on.
pub record Totalled (f : List NewStep → ℕ) (names : List (List ℕ)) (work : List ℕ) (n : Counts) (g : Layout) (i x : ℕ) : Type 0 where
  pub left : sum (map f (new_paths_to names work g n.paths)) ≡ x + sum (map f (new_paths_from names work n g i))

module _ {f : List NewStep → ℕ} {names : List (List ℕ)} {work : List ℕ} {n : Counts} {g : Layout} where
  totalled_start : Totalled f names work n g 0 0
  totalled_start = record { left = ap (λ ps. sum (map f ps)) (new_paths_all names work g n) ∙ omega arith }

  totalled_more : {i x y : ℕ} → Totalled f names work n g i x → i < n.paths → y ≡ f (new_path_no names work g i) → Totalled f names work n g (i + 1) (x + y)
  unfolding sum
  totalled_more {i} s h e = record { left = s.left ∙ rw (new_paths_next names work g n i h, e) (omega arith) }

  totalled_end : {i x : ℕ} → Totalled f names work n g i x → n.paths ≤ i → x ≡ sum (map f (new_paths_to names work g n.paths))
  unfolding sum
  totalled_end {i} s h = sym (s.left ∙ rw (new_paths_none names work g n i h) (omega arith))

-- The state of the count over all new paths at path i.
pub record Summing (work : List ℕ) (n : Counts) (g : Layout) (m : Made) (i nodes steps : ℕ) : Type 0 where
  pub high : i ≤ n.paths
  pub few : (nodes ≤ 2097152 * i) × (steps ≤ 2097152 * i)
  pub on_nodes : (names : List (List ℕ)) → distinct names ≡ true → length names ≡ n.segs + m.segs → Totalled (pairs same_new_node) names work n g i nodes
  pub on_steps : (names : List (List ℕ)) → distinct names ≡ true → length names ≡ n.segs + m.segs → Totalled (pairs same_new_step) names work n g i steps

module _ {work : List ℕ} {n : Counts} {g : Layout} {m : Made} where
  pub summing_start : Summing work n g m 0 0 0
  summing_start = record { high = omega arith; few = (omega arith, omega arith); on_nodes = λ names d e. totalled_start; on_steps = λ names d e. totalled_start }

  pub summing_more : {i nodes steps : ℕ} {r : Steps} {q : Pairs} → Summing work n g m i nodes steps → i < n.paths → NewRows work n g m → Few n → NewPathIs work n g m i r
      → NewPairsIs work n g m r.first r.end q → Summing work n g m (i + 1) (nodes + q.nodes) (steps + q.steps)
  summing_more s h r f w q =
      record {
        high = omega arith;
        few = (omega (arith, s.few, q.few, w.high, r.few, f.4), omega (arith, s.few, q.few, w.high, r.few, f.4));
        on_nodes = λ names d e. totalled_more (s.on_nodes names d e) h (q.nodes names d e ∙ rw (w.path names));
        on_steps = λ names d e. totalled_more (s.on_steps names d e) h (q.steps names d e ∙ rw (w.path names));
      }

  pub summing_end : {i nodes steps : ℕ} → Summing work n g m i nodes steps → n.paths ≤ i → NewPairTotals work n g m (record { nodes = nodes; steps = steps })
  summing_end s h = record { nodes = λ names d e. totalled_end (s.on_nodes names d e) h; steps = λ names d e. totalled_end (s.on_steps names d e) h }
