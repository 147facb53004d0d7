-- Counts over the tables, row by row: a count so far, and what the rows that are left add to it. Assumes nothing.
use Prim.Native.Nat.{ℕ, ◌+◌, ◌-◌, ◌≤◌, ◌<◌}
use native.Mathlib.Omega.{arith}
use mathlib.Core.Bool.{Bool}
use mathlib.Core.List.{List, ◌∷◌, map}
use mathlib.Core.Path.{◌≡◌, refl, sym, ap, ◌∙◌}
use Rattle.tables.specs.declared.tables.Bases.{Bases}
use Rattle.tables.specs.declared.tables.Counts.{Counts}
use Rattle.tables.specs.declared.rows.LinkWords.{LinkWords}
use Rattle.tables.specs.declared.rows.PathWords.{PathWords}
use Rattle.tables.specs.declared.rows.StepWords.{StepWords}
use Rattle.runs.specs.declared.counts.Pairs.{Pairs}
use Rattle.gfa_spec.specs.Bytes.{sum, count}
use Rattle.gfa_spec.specs.Reading.{Step, Path}
use Rattle.gfa_spec.specs.Records.{is_self_link, self_links}
use Rattle.gfa_spec.specs.Runs.{bit, pairs, same_node, same_step, over_paths, same_node_pairs, same_step_pairs}
use Rattle.gfa_spec.proofs.Counting.{bit_byte, count_one, count_append}
use Rattle.gfa_spec.proofs.Runs.{pairs_none, pairs_cons}
use Rattle.tables.specs.Entries.{entries_at}
use Rattle.tables.specs.Tables.{Tables}
use Rattle.tables.specs.ByNumber.{path_no, step_no, links_to, paths_from, steps_from, step_of, link_of, StepIs, LinkIs, PathIs}
use Rattle.tables.proofs.ByNumber.{links_more, paths_all, paths_next, paths_none, steps_next, steps_length, links_zero}
use Rattle.runs.specs.Counts.{PairsIs, over_rows, PairTotals}
use mir.Val.{bool_byte}

-- ---- the pairs of a step list

-- The pairs of the steps from `first` on are x, and those of the steps from j - 1 on.
pub record Paired (p : Step → Step → Bool) (text work : List ℕ) (b : Bases) (first end j x : ℕ) : Type 0 where
  pub few : x + first < j
  pub left : pairs p (steps_from text work b first end) ≡ x + pairs p (steps_from text work b (j - 1) end)

module _ {p : Step → Step → Bool} {text work : List ℕ} {b : Bases} {first end : ℕ} where
  paired_start : Paired p text work b first end (first + 1) 0
  paired_start = let here : first + 1 - 1 ≡ first = omega arith in record { few = omega arith; left = rw here (omega arith) }

  paired_more : {j x y : ℕ} → Paired p text work b first end j x → j < end → y ≡ bit (p (step_no text work b (j - 1)) (step_no text work b j)) → y ≤ 1
      → Paired p text work b first end (j + 1) (x + y)
  paired_more {j} {x} {y} h u e f =
      let next : j - 1 + 1 ≡ j = omega (arith, h.few) in
      let here : j + 1 - 1 ≡ j = omega arith in
      let second = steps_next text work b j end u in
      let two : steps_from text work b (j - 1) end ≡ step_no text work b (j - 1) ∷ (step_no text work b j ∷ steps_from text work b (j + 1) end)
      = steps_next text work b (j - 1) end (omega arith) ∙ rw (next, second) in
      record {
        few = omega (arith, h.few);
        left = h.left ∙ rw (two, here, second, pairs_cons, e) (omega arith);
      }

  paired_end : {j x : ℕ} → Paired p text work b first end j x → end ≤ j → x ≡ pairs p (steps_from text work b first end)
  paired_end {j} {x} h u =
      let none_left = pairs_none p (steps_from text work b (j - 1) end) (omega (arith, steps_length text work b (j - 1) end)) in
      omega (arith, h.left, none_left)

-- The state of the pair count at j.
pub record Pairing (text work : List ℕ) (b : Bases) (first end j nodes steps : ℕ) : Type 0 where
  pub low : first < j
  pub high : j ≤ end + 1
  pub on_nodes : Paired same_node text work b first end j nodes
  pub on_steps : Paired same_step text work b first end j steps

module _ {text work : List ℕ} {b : Bases} {first end : ℕ} where
  pub pairing_start : first ≤ end → Pairing text work b first end (first + 1) 0 0
  pairing_start h = record { low = omega arith; high = omega arith; on_nodes = paired_start; on_steps = paired_start }

  module _ {j nodes steps : ℕ} (s : Pairing text work b first end j nodes steps) where
    pub pairing_more : {last here : StepWords} {y z : ℕ} {q r : Bool} → j < end → StepIs text work b (j - 1) last → StepIs text work b j here
        → q ≡ same_node (step_of text last) (step_of text here) → y ≡ bool_byte q
        → r ≡ same_step (step_of text last) (step_of text here) → z ≡ bool_byte r
        → Pairing text work b first end (j + 1) (nodes + y) (steps + z)
    pairing_more u f g q n r m =
        let y = bit_byte _ n in
        let z = bit_byte _ m in
        record {
          low = omega (arith, s.low);
          high = omega arith;
          on_nodes = paired_more s.on_nodes u (y.0 ∙ rw (q, f.step, g.step)) y.1;
          on_steps = paired_more s.on_steps u (z.0 ∙ rw (r, f.step, g.step)) z.1;
        }

    pub pairing_end : end ≤ j → PairsIs text work b first end (record { nodes = nodes; steps = steps })
    pairing_end u =
        record {
          nodes = paired_end s.on_nodes u;
          steps = paired_end s.on_steps u;
          few = (omega (arith, s.on_nodes.few, s.high), omega (arith, s.on_steps.few, s.high));
        }

-- what the count of pairs goes on by
pub ruleset pairing = (pairing_start, pairing_more, pairing_end)

-- ---- sums over the paths

-- The sum over the paths is x, and that over the paths from path i on.
pub record Summed (f : List Step → ℕ) (text work : List ℕ) (b : Bases) (n : Counts) (i x : ℕ) : Type 0 where
  pub left : over_rows f text work b n ≡ x + sum (map (λ p. f p.steps) (paths_from text work b n i))

module _ {f : List Step → ℕ} {text work : List ℕ} {b : Bases} {n : Counts} where
  pub summed_start : Summed f text work b n 0 0
  unfolding over_rows
  summed_start = record { left = ap (λ (ps : List Path). sum (map (λ p. f p.steps) ps)) (paths_all text work b n) ∙ (omega arith) }

  pub summed_next : {i x y : ℕ} → Summed f text work b n i x → i < n.paths → y ≡ f (path_no text work b i).steps → Summed f text work b n (i + 1) (x + y)
  unfolding sum
  summed_next {i} s h e = record { left = s.left ∙ rw (paths_next text work b n i h, e) (omega arith) }

  pub summed_more : {i x y : ℕ} {r : PathWords} → Summed f text work b n i x → i < n.paths → PathIs text work b n i r → y ≡ f (steps_from text work b r.steps.first r.steps.end)
      → Summed f text work b n (i + 1) (x + y)
  summed_more s h q e = summed_next s h (e ∙ rw q.path)

  pub summed_end : {i x : ℕ} → Summed f text work b n i x → n.paths ≤ i → x ≡ over_rows f text work b n
  unfolding sum
  summed_end {i} {x} s h = sym (s.left ∙ rw (paths_none text work b n i h) (omega arith))

-- ---- links with equal ends

-- The self-links before link i.
pub record Tallied (text work : List ℕ) (b : Bases) (i x : ℕ) : Type 0 where
  pub few : x ≤ i
  pub so_far : x ≡ count is_self_link (links_to text work b i)

module _ {text work : List ℕ} {b : Bases} where
  pub tallied_start : Tallied text work b 0 0
  unfolding count
  tallied_start = record { few = omega arith; so_far = rw links_zero refl }

  pub tallied_more : {i x y : ℕ} {l : LinkWords} {r : Bool} → Tallied text work b i x → LinkIs text work b i l → r ≡ is_self_link (link_of text l) → y ≡ bool_byte r
      → Tallied text work b (i + 1) (x + y)
  tallied_more {i} {x} {y} s q e n =
      let f = bit_byte _ n in
      record {
        few = omega (arith, s.few, f.1);
        so_far = rw (links_more, count_append, count_one, q.link, ← s.so_far, ← e, ← f.0);
      }

  pub tallied_end : {i n x : ℕ} → i ≤ n → n ≤ i → Tallied text work b i x → x ≡ count is_self_link (links_to text work b n)
  tallied_end {i} {n} l h s = let e : i ≡ n = omega arith in rw (← e) s.so_far

-- what the count of self-links goes on by
pub ruleset tallying = (tallied_start, tallied_more, tallied_end)

-- ---- the tables and the entries

module _ {text before work : List ℕ} {b : Bases} {n : Counts} (t : Tables text before work b n) where
  -- a count over the table's paths is that over the entries'
  pub over_entries : (f : List Step → ℕ) → over_rows f text work b n ≡ over_paths f (entries_at text work b n.lines)
  unfolding over_rows over_paths
  over_entries f = rw t.of_paths

  -- adjacent pairs of all paths, as the definitions count them
  pub pairs_of_entries : {r : Pairs} → PairTotals text work b n r → (r.nodes ≡ same_node_pairs (entries_at text work b n.lines)) × (r.steps ≡ same_step_pairs (entries_at text work b n.lines))
  unfolding same_node_pairs same_step_pairs
  pairs_of_entries h = (h.nodes ∙ over_entries (pairs same_node), h.steps ∙ over_entries (pairs same_step))

  -- links with equal ends
  pub self_links_of_entries : {r : ℕ} → r ≡ count is_self_link (links_to text work b n.links) → r ≡ self_links (entries_at text work b n.lines)
  unfolding self_links
  self_links_of_entries e = e ∙ rw t.of_links
