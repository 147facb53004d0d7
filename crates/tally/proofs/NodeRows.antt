-- The node table with one link more: a row that is added, a row that counts it, and rows that stand. Assumes nothing.
use Prim.Native.Nat.{ℕ, zero, suc, ◌+◌, ◌<◌}
use native.Mathlib.Decide.{dec_lt, ℕ_discrete}
use native.Mathlib.Numerals.{add-one}
use native.Mathlib.Omega.{arith}
use mathlib.Core.Bool.{true, false}
use mathlib.Core.List.{List, [], ◌∷◌, ◌++◌, append-nil}
use mathlib.Core.Path.{◌≡◌, refl, sym, ap, ◌∙◌}
use lib.ListN.{length-append}
use Rattle.gfa_spec.specs.Bytes.{same, any}
use Rattle.gfa_spec.specs.Reading.{Segment, Link, Path}
use Rattle.gfa_spec.specs.Records.{is_self_link}
use Rattle.gfa_spec.specs.Runs.{bit}
use Rattle.gfa_spec.proofs.Tests.{same_equal, same_refl, same_sym, any_append}
use Rattle.tables.specs.declared.rows.LinkWords.{LinkWords}
use Rattle.scan.specs.Orientations.{sign_of}
use Rattle.scan.specs.Places.{bytes_in, Inside}
use Rattle.tables.specs.ByNumber.{link_of}
use Rattle.report_spec.specs.Nodes.{each_once}
use Rattle.nodes.specs.declared.nodes.NodeWords.{NodeWords}
use Rattle.nodes.specs.Counters.{no_counter, CounterOf}
use Rattle.nodes.specs.Table.{node_no, counter_no, name_no, names_to, RowPut, Elsewhere, NodeHas, marked_of, row_with_link, code, bits_of, links_among, LinkCounts, CountRows, NodeTable}
use Rattle.nodes.proofs.Pairs.{bits_more}
use Rattle.nodes.proofs.Stored.{names_same, node_other, counter_other}
use Rattle.tally.specs.Tabled.{new_node}
use Rattle.tally.proofs.PathCounting.{counted_none}
use Rattle.tally.proofs.Names.{or_true, once_last, once_there, is_on, among_last, loop_names, loops_last, self_on, other_on, among_none}

-- ---- a name among the rows

module _ (text w x : List ℕ) (table : ℕ) where
  names_none : (n : ℕ) → ((k : ℕ) → k < n → same (name_no text w table k) x ≡ false) → any (same x) (names_to text w table n) ≡ false
  unfolding names_to any
  names_none zero h = refl
  names_none (suc n) h = rw (any_append, names_none n (λ k b. h k (omega arith)), same_sym x (name_no text w table n), h n (omega arith))

  names_some : (n k : ℕ) → k < n → same (name_no text w table k) x ≡ true → any (same x) (names_to text w table n) ≡ true
  unfolding names_to any
  names_some zero k b h = absurd (omega arith)
  names_some (suc n) k b h = go (ℕ_discrete k n) (λ c. names_some n k c h)
    where
      go : Dec (k ≡ n) → (k < n → any (same x) (names_to text w table n) ≡ true) → any (same x) (names_to text w table (suc n)) ≡ true
      go (yes e) r =
          let last : same x (name_no text w table n) ≡ true = same_sym x (name_no text w table n) ∙ (rw e at h) in
          rw (any_append, last) (or_true (any (same x) (names_to text w table n)))
      go (no d) r = rw (any_append, r (omega arith))

-- ---- a link

module _ {text : List ℕ} {ss : List Segment} {ls : List Link} {a : NodeWords} (l : LinkWords) (r : LinkCounts text ss ls a) where
  -- a link that is not on the row's node changes nothing in it
  counts_elsewhere : is_on (bytes_in text a.name) (link_of text l) ≡ false → LinkCounts text ss (ls ++ (link_of text l ∷ [])) a
  counts_elsewhere e =
      let same-links : links_among (ls ++ (link_of text l ∷ [])) (bytes_in text a.name) ≡ links_among ls (bytes_in text a.name) = among_last ls (link_of text l) (bytes_in text a.name) ∙ rw (e, append-nil) in
      record { number = r.number; long = r.long; links = rw same-links r.links; bits = rw same-links r.bits }

  -- a link on the row's node is counted in it
  counts_here : is_on (bytes_in text a.name) (link_of text l) ≡ true → LinkCounts text ss (ls ++ (link_of text l ∷ [])) (row_with_link a l)
  counts_here e =
      let old = links_among ls (bytes_in text a.name) in
      let more : links_among (ls ++ (link_of text l ∷ [])) (bytes_in text a.name) ≡ old ++ (link_of text l ∷ []) = among_last ls (link_of text l) (bytes_in text a.name) ∙ rw e in
      record {
        number = r.number;
        long = r.long;
        links = rw (more, length-append, r.links);
        bits = rw (more, r.bits) (bits_more old (link_of text l));
      }

module _ {text : List ℕ} {ss : List Segment} {ls : List Link} {w : List ℕ} {table n : ℕ} (t : NodeTable text ss ls w table n) (l : LinkWords) where
  -- a link whose ends differ changes nothing
  pub table_other : is_self_link (link_of text l) ≡ false → NodeTable text ss (ls ++ (link_of text l ∷ [])) w table n
  unfolding loop_names
  table_other e =
      record {
        names = t.names ∙ ap (each_once []) (sym (loops_last ls (link_of text l) ∙ rw (e, append-nil)));
        apart = t.apart;
        inside = t.inside;
        rows = λ k h. counts_elsewhere l (t.rows k h) (other_on (link_of text l) (name_no text w table k) e);
        few = rw length-append (omega (arith, t.few));
      }

  -- ---- a self-link

  module _ (self : is_self_link (link_of text l) ≡ true) where
    -- it is on the rows of its name only
    on_row : (node : List ℕ) → is_on node (link_of text l) ≡ same node (bytes_in text l.from)
    on_row node = self_on (link_of text l) node self ∙ same_sym (bytes_in text l.from) node

    -- the names with it
    loops_more : loop_names (ls ++ (link_of text l ∷ [])) ≡ loop_names ls ++ (bytes_in text l.from ∷ [])
    loops_more = loops_last ls (link_of text l) ∙ rw self

    -- is the name among the rows?
    among_rows : any (same (bytes_in text l.from)) (names_to text w table n) ≡ any (same (bytes_in text l.from)) (loop_names ls)
    unfolding loop_names any
    among_rows = rw t.names (once_there [] (loop_names ls) (bytes_in text l.from) refl)

    -- a name that no row has gets a row
    module _ {w' : List ℕ} (away : Elsewhere text w table n l.from) (inside : Inside text l.from) (p : RowPut w w' table n (new_node text ss l) no_counter) where
      absent : any (same (bytes_in text l.from)) (loop_names ls) ≡ false
      absent = sym among_rows ∙ names_none text w (bytes_in text l.from) table n away.other

      old : (k : ℕ) → k < n → node_no w' table k ≡ node_no w table k
      old k h = node_other p k (λ z. omega arith)

      new_row : LinkCounts text ss (ls ++ (link_of text l ∷ [])) (new_node text ss l)
      new_row =
          let name = bytes_in text l.from in
          let mine : links_among (ls ++ (link_of text l ∷ [])) name ≡ link_of text l ∷ [] = among_last ls (link_of text l) name ∙ rw (among_none ls name absent, on_row name, same_refl name) in
          record { number = refl; long = refl; links = rw mine; bits = rw mine one_pair }
        where
          one_pair : marked_of 0 (sign_of l.leaves) (sign_of l.enters) ≡ bits_of (link_of text l ∷ [])
          one_pair = unfold bits_of code any bit in bits_more [] (link_of text l)

      pub table_new : NodeTable text ss (ls ++ (link_of text l ∷ [])) w' table (n + 1)
      unfolding loop_names any names_to
      table_new =
          let name = bytes_in text l.from in
          let right : each_once [] (loop_names (ls ++ (link_of text l ∷ []))) ≡ each_once [] (loop_names ls) ++ (name ∷ []) = ap (each_once []) loops_more ∙ once_last [] (loop_names ls) name ∙ rw absent in
          record {
            names = rw (add-one, names_same text w w' table n (λ k h. ap (λ a. a.name) (old k h)), p.words, t.names) (sym right);
            apart = record { differ = λ i j h k. differ i j h k (ℕ_discrete j n) };
            inside = λ k h. within k h (ℕ_discrete k n);
            rows = λ k h. row k h (ℕ_discrete k n);
            few = rw length-append (omega (arith, t.few));
          }
        where
          differ : (i j : ℕ) → i < j → j < n + 1 → Dec (j ≡ n) → same (name_no text w' table i) (name_no text w' table j) ≡ false
          differ i j h k (yes e) = rw (e, p.words, old i (omega arith)) (away.other i (omega arith))
          differ i j h k (no f) = rw (old i (omega arith), old j (omega arith)) (t.apart.differ i j h (omega arith))

          within : (k : ℕ) → k < n + 1 → Dec (k ≡ n) → Inside text (node_no w' table k).name
          within k h (yes e) = rw (e, p.words) inside
          within k h (no f) = rw (old k (omega arith)) (t.inside k (omega arith))

          row : (k : ℕ) → k < n + 1 → Dec (k ≡ n) → LinkCounts text ss (ls ++ (link_of text l ∷ [])) (node_no w' table k)
          row k h (yes e) = rw (e, p.words) new_row
          row k h (no f) = rw (old k (omega arith)) (counts_elsewhere l (t.rows k (omega arith)) (on_row (name_no text w table k) ∙ away.other k (omega arith)))

    -- a name that row k has is counted there
    module _ {w' : List ℕ} {k : ℕ} (here : NodeHas text w table n l.from k) (p : RowPut w w' table k (row_with_link (node_no w table k) l) (counter_no w table k)) where
      same_place : (i : ℕ) → Dec (i ≡ k) → (node_no w' table i).name ≡ (node_no w table i).name
      same_place i (yes e) = rw (e, p.words)
      same_place i (no d) = rw (node_other p i d)

      kept_place : (i : ℕ) → (node_no w' table i).name ≡ (node_no w table i).name
      kept_place i = same_place i (ℕ_discrete i k)

      pub table_more : NodeTable text ss (ls ++ (link_of text l ∷ [])) w' table n
      unfolding loop_names any
      table_more =
          let name = bytes_in text l.from in
          let present : any (same name) (loop_names ls) ≡ true = sym among_rows ∙ names_some text w name table n k here.below here.same_name in
          let right : each_once [] (loop_names (ls ++ (link_of text l ∷ []))) ≡ each_once [] (loop_names ls) = ap (each_once []) loops_more ∙ once_last [] (loop_names ls) name ∙ rw (present, append-nil) in
          record {
            names = names_same text w w' table n (λ i h. kept_place i) ∙ t.names ∙ sym right;
            apart = record { differ = λ i j h q. rw (kept_place i, kept_place j) (t.apart.differ i j h q) };
            inside = λ i h. rw (kept_place i) (t.inside i h);
            rows = λ i h. row i h (ℕ_discrete i k);
            few = rw length-append (omega (arith, t.few));
          }
        where
          other : (i : ℕ) → i < n → (i ≡ k → ⊥) → Dec (k < i) → same (name_no text w table i) (bytes_in text l.from) ≡ false
          other i h d (yes g) = rw (← same_equal (name_no text w table k) (bytes_in text l.from) here.same_name) (same_sym (name_no text w table i) (name_no text w table k) ∙ t.apart.differ k i g h)
          other i h d (no g) = rw (← same_equal (name_no text w table k) (bytes_in text l.from) here.same_name) (t.apart.differ i k (omega arith) here.below)

          row : (i : ℕ) → i < n → Dec (i ≡ k) → LinkCounts text ss (ls ++ (link_of text l ∷ [])) (node_no w' table i)
          row i h (yes e) = rw (e, p.words) (counts_here l (t.rows k here.below) (on_row (name_no text w table k) ∙ here.same_name))
          row i h (no d) = rw (node_other p i d) (counts_elsewhere l (t.rows i h) (on_row (name_no text w table i) ∙ other i h d (dec_lt k i)))

-- ---- counters of rows that are added, and that count a link

module _ {text w w' : List ℕ} {table n : ℕ} where
  pub fresh_new : {a : NodeWords} → RowPut w w' table n a no_counter → CountRows text [] w table n → CountRows text [] w' table (n + 1)
  fresh_new p e = record { row = λ k h. go k h (ℕ_discrete k n) }
    where
      go : (k : ℕ) → k < n + 1 → Dec (k ≡ n) → CounterOf (name_no text w' table k) [] (counter_no w' table k)
      go k h (yes z) = rw (z, p.counts) (counted_none (name_no text w' table n))
      go k h (no d) = rw (node_other p k d, counter_other p k d) (e.row k (omega arith))

  pub fresh_more : {ps : List Path} {k : ℕ} {a : NodeWords} → RowPut w w' table k a (counter_no w table k) → a.name ≡ (node_no w table k).name → CountRows text ps w table n → CountRows text ps w' table n
  fresh_more {ps} {k} p s e = record { row = λ i h. go i h (ℕ_discrete i k) }
    where
      go : (i : ℕ) → i < n → Dec (i ≡ k) → CounterOf (name_no text w' table i) ps (counter_no w' table i)
      go i h (yes z) = rw (z, p.words, s, p.counts) (rw z at (e.row i h))
      go i h (no d) = rw (node_other p i d, counter_other p i d) (e.row i h)
