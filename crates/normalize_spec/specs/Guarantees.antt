-- What every accepted normalization keeps: demand 3, stated of the bytes that were written, read again. Document 01, "Folding", last paragraph.
use Rattle.std.specs.Prelude.{ℕ, ◌+◌, ◌-◌, ◌≤◌, Bool, true, cond, not, ◌&&◌, ◌||◌, List, [], map, ◌≡◌, eqb, leb, length}
use Rattle.std.specs.Prelude.{None}
use Rattle.gfa_spec.specs.Bytes.{all, sum, nth}
use Rattle.gfa_spec.specs.Reading.{Step, Segment, Entry, parsed, parse}
use Rattle.gfa_spec.specs.Records.{segments, paths, has_sequence, self_links}
use Rattle.gfa_spec.specs.Runs.{Run, runs, pairs, same_step, same_node_pairs, same_step_pairs, step_count}
use Rattle.gfa_spec.specs.Spelling.{spell}
use Rattle.gfa_spec.specs.Calls.{bad_byte}
use Rattle.normalize_spec.specs.Folding.{folded, is_folded, is_folded_run}
use Rattle.normalize_spec.specs.Counting.{Stats}

-- cap d is as loose as cap c, or looser (rule 1): cap 0 is loosest; of two others the larger is looser; equal caps are as loose
unfoldable pub looser : ℕ → ℕ → Bool
looser c d = eqb d 0 || (not (eqb c 0) && leb c d)

-- the steps of path k, counted from 0
unfoldable pub steps_of : List Entry → ℕ → List Step
steps_of es k = nth k (map (λ p. p.steps) (paths es)) []

-- the steps that a run loses: its length less one where it is folded, else none
unfoldable pub loss_of : List Segment → Run → ℕ
loss_of fs r = cond (is_folded_run fs r) (r.count - 1) 0

-- lost steps: run length less one, summed over the maximal runs of two or more on folded segments
unfoldable pub loss : List Segment → List Step → ℕ
loss fs steps = sum (map (loss_of fs) (runs steps))

-- `output` is what a normalization of the text with entries es under the cap wrote, and `after` its entries.
pub record Kept (es : List Entry) (cap : ℕ) (output : List ℕ) (after : List Entry) : Type 0 where
  -- the output can be read, at any length
  pub clean : bad_byte 0 output ≡ None
  pub reads : parse output ≡ parsed after
  -- path k is set against path k
  pub as_many : length (paths after) ≡ length (paths es)
  -- a path spells what it spelled, whatever the complement of a byte is
  pub spells : (comp : ℕ → ℕ) (k : ℕ) → spell comp (segments after) (steps_of after k) ≡ spell comp (segments es) (steps_of es k)
  -- all its steps have sequences where all had
  pub sequenced : (k : ℕ) → all (has_sequence (segments after)) (steps_of after k) ≡ all (has_sequence (segments es)) (steps_of es k)
  -- the steps of a path fall by its lost steps
  pub lost : (k : ℕ) → length (steps_of es k) ≡ length (steps_of after k) + loss (folded es cap) (steps_of es k)
  -- and so do its adjacent equal steps
  pub fallen : (k : ℕ) → pairs same_step (steps_of es k) ≡ pairs same_step (steps_of after k) + loss (folded es cap) (steps_of es k)

-- The counters that speak of the input and of the output are counts of the entries of each: of the output, read again.
pub record Counted (es after : List Entry) (st : Stats) : Type 0 where
  pub self_links_before : st.input_direct_self_loop_edges ≡ self_links es
  pub self_links_after : st.output_direct_self_loop_edges ≡ self_links after
  pub node_pairs_before : st.input_adjacent_same_node_path_steps ≡ same_node_pairs es
  pub node_pairs_after : st.output_adjacent_same_node_path_steps ≡ same_node_pairs after
  pub step_pairs_before : st.input_adjacent_same_step_path_steps ≡ same_step_pairs es
  pub step_pairs_after : st.output_adjacent_same_step_path_steps ≡ same_step_pairs after
  pub steps_before : st.path_steps_before ≡ step_count es
  pub steps_after : st.path_steps_after ≡ step_count after

-- Of two caps of which the second is as loose or looser, with the entries of the two outputs.
pub record Monotone (es : List Entry) (c d : ℕ) (after-c after-d : List Entry) : Type 0 where
  -- what the tighter cap folds, the looser one folds
  pub folds : (s : Segment) → is_folded es c s ≡ true → is_folded es d s ≡ true
  -- each path loses at least as many steps
  pub loses : (k : ℕ) → loss (folded es c) (steps_of es k) ≤ loss (folded es d) (steps_of es k)
  -- and so no path of the looser cap's output has more
  pub no_more : (k : ℕ) → length (steps_of after-d k) ≤ length (steps_of after-c k)
