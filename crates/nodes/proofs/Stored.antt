-- Rows of the node table that are stored, and rows that stand. Assumes nothing.
use Prim.Native.Nat.{ℕ, zero, suc, ◌+◌, ◌*◌, ◌≤◌, ◌<◌}
use native.Mathlib.Decide.{dec_lt}
use native.Mathlib.Omega.{arith}
use mathlib.Core.List.{List, [], ◌∷◌}
use mathlib.Core.Logic.{inl, inr}
use mathlib.Core.Path.{◌≡◌, refl, ◌∙◌}
use lib.ListN.{length, get_or}
use lib.Seq.{sets, length-sets}
use Rattle.std.specs.Prelude.{Option, Some, None}
use Rattle.work.specs.Rows.{span, Only, number_in}
use Rattle.work.proofs.Rows.{KeptWords, only_put, only_then, only_wider, only_kept, kept_within, outside_less}
use Rattle.work.proofs.Stores.{sets_here, sets_first}
use Rattle.work.proofs.Words.{number_word}
use Rattle.tables.specs.declared.entry.SegmentNo.{SegmentNo}
use Rattle.tables.specs.declared.entry.PathNo.{PathNo}
use Rattle.tables.specs.Segments.{segment_found}
use Rattle.nodes.specs.declared.counters.Counter.{Counter}
use Rattle.nodes.specs.declared.nodes.NodeWords.{NodeWords}
use Rattle.nodes.specs.Counters.{path_found, path_word, counter_words}
use Rattle.nodes.specs.Table.{nodes_end, segment_word, node_no, counter_no, names_to, RowPut}

-- ---- rows that stand

module _ {w w' : List ℕ} (table k : ℕ) where
  node_kept : KeptWords (nodes_end table k) (nodes_end table k + 6) w w' → node_no w' table k ≡ node_no w table k
  unfolding node_no
  node_kept h =
      let word : (d : ℕ) → d < 6 → get_or w' (table + 14 * k + d) 0 ≡ get_or w (table + 14 * k + d) 0 = λ d l. h.word (table + 14 * k + d) (omega arith) (omega arith) in
      rw (h.word (table + 14 * k) (omega arith) (omega arith), word 1 (omega arith), word 2 (omega arith), word 3 (omega arith), word 4 (omega arith), word 5 (omega arith))

  counter_kept : KeptWords (nodes_end table k + 6) (nodes_end table (k + 1)) w w' → counter_no w' table k ≡ counter_no w table k
  unfolding counter_no
  counter_kept h =
      let word : (d : ℕ) → 6 ≤ d → d < 14 → get_or w' (table + 14 * k + d) 0 ≡ get_or w (table + 14 * k + d) 0 = λ d a l. h.word (table + 14 * k + d) (omega arith) (omega arith) in
      rw (
        word 6 (omega arith) (omega arith),
        word 7 (omega arith) (omega arith),
        word 8 (omega arith) (omega arith),
        word 9 (omega arith) (omega arith),
        word 10 (omega arith) (omega arith),
        word 11 (omega arith) (omega arith),
        word 12 (omega arith) (omega arith),
        word 13 (omega arith) (omega arith),
      )

-- the table is kept
module _ {w w' : List ℕ} {table m : ℕ} (h : KeptWords table (nodes_end table m) w w') (k : ℕ) (l : k < m) where
  pub node_stands : node_no w' table k ≡ node_no w table k
  node_stands = node_kept table k (kept_within (nodes_end table k) (nodes_end table k + 6) h (omega arith) (omega arith))

  pub counter_stands : counter_no w' table k ≡ counter_no w table k
  counter_stands = counter_kept table k (kept_within (nodes_end table k + 6) (nodes_end table (k + 1)) h (omega arith) (omega arith))

-- the names of rows whose names stand
pub names_same : (text w w' : List ℕ) (table n : ℕ) → ((k : ℕ) → k < n → (node_no w' table k).name ≡ (node_no w table k).name) → names_to text w' table n ≡ names_to text w table n
unfolding names_to
names_same text w w' table zero same = refl
names_same text w w' table (suc n) same = rw (names_same text w w' table n (λ k h. same k (omega arith)), same n (omega arith))

-- ---- a row that is stored

-- the word of a number stands for it
segment_told : (m : Option SegmentNo) → segment_found (number_in (segment_word m)) ≡ m
segment_told None = rw (number_word None)
segment_told (Some k) = rw (number_word (Some k.0))

path_told : (m : Option PathNo) → path_found (number_in (path_word m)) ≡ m
path_told None = rw (number_word None)
path_told (Some k) = rw (number_word (Some k.0))

module _ {w w' : List ℕ} {table k : ℕ} {a : NodeWords} {c : Counter} (p : RowPut w w' table k a c) where
  side : (j : ℕ) → (j ≡ k → ⊥) → Dec (k < j) → KeptWords (nodes_end table j) (nodes_end table (j + 1)) w w'
  side j d (yes g) = only_kept (nodes_end table j) (nodes_end table (j + 1)) p.only (inr (omega arith), tt)
  side j d (no g) = only_kept (nodes_end table j) (nodes_end table (j + 1)) p.only (inl (omega arith), tt)

  -- the others stand
  pub node_other : (j : ℕ) → (j ≡ k → ⊥) → node_no w' table j ≡ node_no w table j
  node_other j d = node_kept table j (kept_within (nodes_end table j) (nodes_end table j + 6) (side j d (dec_lt k j)) (omega arith) (omega arith))

  pub counter_other : (j : ℕ) → (j ≡ k → ⊥) → counter_no w' table j ≡ counter_no w table j
  counter_other j d = counter_kept table j (kept_within (nodes_end table j + 6) (nodes_end table (j + 1)) (side j d (dec_lt k j)) (omega arith) (omega arith))

  -- one of m rows alone has changed
  pub put_within : {m : ℕ} → k < m → Only (span table (nodes_end table m) ∷ []) w w'
  put_within {m} h = only_wider (span table (nodes_end table m) ∷ []) p.only (λ i o. (outside_less (nodes_end table k) (nodes_end table (k + 1)) o.0 (omega arith) (omega arith), tt))

  -- and its counters anew
  pub put_again : {v : List ℕ} {d : Counter} → RowPut w' v table k (node_no w' table k) d → RowPut w v table k a d
  put_again q =
      record {
        words = q.words ∙ p.words;
        counts = q.counts;
        long = q.long ∙ p.long;
        only = only_then (span (nodes_end table k) (nodes_end table (k + 1)) ∷ []) p.only q.only (λ i o. (o, o));
      }

module _ {w w' : List ℕ} {table k : ℕ} (room : nodes_end table (k + 1) ≤ length w) where
  -- the words of a new row
  pub put_words : {start size long links bits : ℕ} {number : Option SegmentNo} → w' ≡ sets w (table + 14 * k) (start ∷ size ∷ segment_word number ∷ long ∷ links ∷ bits ∷ [])
      → RowPut w w' table k (record { name = record { start = start; size = size }; number = number; long = long; links = links; bits = bits }) (counter_no w table k)
  unfolding node_no
  put_words {start} {size} {long} {links} {bits} {number} s =
      let at = table + 14 * k in
      let row = start ∷ size ∷ segment_word number ∷ long ∷ links ∷ bits ∷ [] in
      let here : (d : ℕ) → d < 6 → get_or (sets w at row) (at + d) 0 ≡ get_or row d 0 = λ d l. sets_here row w at d l (omega arith) in
      rw s
      (record {
        words = rw (sets_first row w at (omega arith) (omega arith), here 1 (omega arith), here 2 (omega arith), here 3 (omega arith), here 4 (omega arith), here 5 (omega arith), segment_told number);
        counts = counter_kept table k (only_kept (at + 6) (nodes_end table (k + 1)) (only_put row w at) (inr (omega arith), tt));
        long = length-sets w at row;
        only = only_wider (span at (nodes_end table (k + 1)) ∷ []) (only_put row w at) (λ i o. (outside_less at (at + 6) o.0 (omega arith) (omega arith), tt));
      })

  -- its links
  pub put_links : {links bits : ℕ} → w' ≡ sets w (table + 14 * k + 4) (links ∷ bits ∷ [])
      → RowPut w w' table k (record { name = (node_no w table k).name; number = (node_no w table k).number; long = (node_no w table k).long; links = links; bits = bits }) (counter_no w table k)
  unfolding node_no
  put_links {links} {bits} s =
      let at = table + 14 * k in
      let row = links ∷ bits ∷ [] in
      let fifth : at + 4 + 1 ≡ at + 5 = omega arith in
      let last : get_or (sets w (at + 4) row) (at + 5) 0 ≡ bits = rw fifth at (sets_here row w (at + 4) 1 (omega arith) (omega arith)) in
      let old = only_kept at (at + 4) (only_put row w (at + 4)) (inl (omega arith), tt) in
      let word : (d : ℕ) → d < 4 → get_or (sets w (at + 4) row) (at + d) 0 ≡ get_or w (at + d) 0 = λ d l. old.word (at + d) (omega arith) (omega arith) in
      rw s
      (record {
        words = rw (old.word at (omega arith) (omega arith), word 1 (omega arith), word 2 (omega arith), word 3 (omega arith), sets_first row w (at + 4) (omega arith) (omega arith), last);
        counts = counter_kept table k (only_kept (at + 6) (nodes_end table (k + 1)) (only_put row w (at + 4)) (inr (omega arith), tt));
        long = length-sets w (at + 4) row;
        only = only_wider (span at (nodes_end table (k + 1)) ∷ []) (only_put row w (at + 4)) (λ i o. (outside_less (at + 4) (at + 4 + 2) o.0 (omega arith) (omega arith), tt));
      })

  -- its counters
  pub put_counts : {c : Counter} → w' ≡ sets w (table + 14 * k + 6) (counter_words c) → RowPut w w' table k (node_no w table k) c
  unfolding counter_no
  put_counts {c} s =
      let at = table + 14 * k in
      let row = counter_words c in
      let here : (i d : ℕ) → at + 6 + i ≡ d → i < 8 → get_or (sets w (at + 6) row) d 0 ≡ get_or row i 0 = λ i d e l. (rw e at (sets_here row w (at + 6) i (omega arith) (omega arith))) in
      rw s
      (record {
        words = node_kept table k (only_kept at (at + 6) (only_put row w (at + 6)) (inl (omega arith), tt));
        counts =
            rw (
              sets_first row w (at + 6) (omega arith) (omega arith),
              here 1 (at + 7) (omega arith) (omega arith),
              here 2 (at + 8) (omega arith) (omega arith),
              here 3 (at + 9) (omega arith) (omega arith),
              here 4 (at + 10) (omega arith) (omega arith),
              here 5 (at + 11) (omega arith) (omega arith),
              here 6 (at + 12) (omega arith) (omega arith),
              here 7 (at + 13) (omega arith) (omega arith),
              path_told c.last,
              path_told c.first,
            );
        long = length-sets w (at + 6) row;
        only = only_wider (span at (nodes_end table (k + 1)) ∷ []) (only_put row w (at + 6)) (λ i o. (outside_less (at + 6) (at + 6 + 8) o.0 (omega arith) (omega arith), tt));
      })
