-- The pass over the links: the node table after each. Assumes nothing.
use Prim.Native.Nat.{ℕ, ◌+◌, ◌≤◌, ◌<◌}
use native.Mathlib.Omega.{arith}
use mathlib.Core.Bool.{Bool, true, false}
use mathlib.Core.List.{List, [], ◌∷◌, ◌++◌}
use mathlib.Core.Logic.{inl}
use mathlib.Core.Path.{◌≡◌, refl, sym, subst, ◌∙◌}
use lib.ListN.{length}
use Rattle.std.specs.Prelude.{Option, Some, None}
use Rattle.gfa_spec.specs.Bytes.{keep}
use Rattle.gfa_spec.specs.Records.{is_self_link}
use Rattle.gfa_spec.proofs.Tests.{by_test}
use Rattle.work.specs.Rows.{span}
use Rattle.work.proofs.Rows.{only_none, only_then, only_kept, outside_less}
use Rattle.tables.specs.declared.tables.Bases.{Bases}
use Rattle.tables.specs.declared.tables.Counts.{Counts}
use Rattle.scan.specs.declared.places.Place.{Place}
use Rattle.tables.specs.declared.rows.LinkWords.{LinkWords}
use Rattle.tables.specs.ByNumber.{segments_of, links_to, link_of, tables_end, LinkIs}
use Rattle.tables.specs.Tables.{Readable}
use Rattle.runs.specs.Counts.{over_rows}
use Rattle.tables.proofs.ByNumber.{TablesKept, readable_stands, links_more, links_zero, links_length, segments_stand, links_stand, paths_stand}
use Rattle.report_spec.specs.Nodes.{each_once}
use Rattle.nodes.specs.declared.counters.Counter.{Counter}
use Rattle.nodes.specs.declared.nodes.NodeWords.{NodeWords}
use Rattle.nodes.specs.Table.{nodes_end, node_no, counter_no, name_no, names_to, RowPut, NamesInside, SearchIs, row_with_link, links_among, NodeTable}
use Rattle.nodes.proofs.Pairs.{bits_small}
use Rattle.nodes.proofs.Stored.{put_within}
use Rattle.nodes.proofs.Finding.{nowhere, found}
use Rattle.tally.specs.Tabled.{Tabled, NodeAdded, NodesIs, LinkReady, LinkAdded}
use Rattle.tally.proofs.Names.{is_on}
use Rattle.tally.proofs.NodeRows.{table_other, table_new, table_more, fresh_new, fresh_more}

-- ---- the tables stand

pub tabled_stands : {text w w' : List ℕ} {b : Bases} {n : Counts} → Tabled text w b n → length w' ≡ length w → TablesKept b n w w' → Tabled text w' b n
unfolding over_rows
tabled_stands t long k = record { readable = readable_stands t.readable k long; short = t.short; visits = rw (paths_stand t.readable k) t.visits }

-- a row of the node table is put behind the tables
pub put_readable : {text w w' : List ℕ} {b : Bases} {n : Counts} {table k : ℕ} {r : NodeWords} {c : Counter} → Readable text w b n → table ≡ tables_end b n → RowPut w w' table k r c → Readable text w' b n
put_readable {b = b} {n = n} {k = k} t at p =
    let q = rw at at p in
    readable_stands t (only_kept b.lines (tables_end b n) (put_within q {m = k + 1} (omega arith)) (inl (omega arith), tt)) p.long

-- ---- a link

-- fewer are kept
keep_fewer : {A : Type 0} (t : A → Bool) (xs : List A) → length (keep t xs) ≤ length xs
unfolding keep
keep_fewer t [] = omega arith
keep_fewer t (x ∷ xs) = by_test (t x) (λ e. rw e (omega (arith, keep_fewer t xs))) (λ e. rw e (omega (arith, keep_fewer t xs)))

module _ {text w : List ℕ} {b : Bases} {n : Counts} {i m : ℕ} (p : LinkReady text w b n i m) where
  -- there are no more nodes than links
  pub few_nodes : m ≤ i
  few_nodes = omega (arith, p.table.few, links_length text w b i)

  -- one more node than there are fits
  pub few_more : m + 1 < 18446744073709551616
  few_more = omega (arith, few_nodes, p.below, p.readable.few.2)

  -- a row for its node is left
  pub room_left : m < n.links
  room_left = omega (arith, few_nodes, p.below)

  module _ {table : ℕ} (at : table ≡ tables_end b n) where
    -- the rows may be searched
    pub names_inside : NamesInside text w table m
    names_inside =
        let r = p.readable in
        rw at (record { room = omega (arith, r.laid.steps, room_left); few = omega (arith, r.few.2, room_left); inside = p.table.inside })

    -- what a row holds is small
    pub row_small : {name : Place} {q : Option ℕ} {k : ℕ} → SearchIs text w table m name q → q ≡ Some k → (nodes_end table (k + 1) ≤ length w) × ((node_no w table k).links < 2097152) × ((node_no w table k).bits < 16)
    unfolding links_among is_on
    row_small {name} {q} {k} f g =
        let h = (found f g).below in
        let r = p.table.rows k h in
        let node = name_no text w (tables_end b n) k in
        let fewer = keep_fewer (is_on node) (links_to text w b i) in
        rw at (
          omega (arith, p.readable.laid.steps, room_left),
          omega (arith, r.links, fewer, links_length text w b i, p.below, p.readable.few.2),
          rw r.bits (bits_small (links_among (links_to text w b i) node)),
        )

  module _ {l : LinkWords} {r : Bool} (is : LinkIs text w b i l) (e : r ≡ is_self_link (link_of text l)) where
    more : links_to text w b (i + 1) ≡ links_to text w b i ++ (link_of text l ∷ [])
    more = rw (← is.link) (links_more text w b i)

    pub linked_other : r ≡ false → LinkAdded text w w b n i m m
    linked_other h = record { is = record { table = rw more (table_other p.table l (sym e ∙ h)); fresh = p.fresh; long = refl; only = only_none }; low = omega arith }

    module _ {table : ℕ} {q : Option ℕ} {w' : List ℕ} (h : r ≡ true) (at : table ≡ tables_end b n) (f : SearchIs text w table m l.from q) where
      pub linked_new : q ≡ None → NodeAdded text w w' b n m l → LinkAdded text w w' b n i m (m + 1)
      linked_new g a =
          record {
            is =
                record {
                  table = rw more (table_new p.table l (sym e ∙ h) (nowhere (rw at at f) g) is.from a.put);
                  fresh = fresh_new a.put p.fresh;
                  long = a.put.long;
                  only = put_within a.put (omega arith);
                };
            low = omega arith;
          }

      pub linked_more : {k : ℕ} → q ≡ Some k → RowPut w w' table k (row_with_link (node_no w table k) l) (counter_no w table k) → LinkAdded text w w' b n i m m
      linked_more g a =
          let here = found (rw at at f) g in
          let put = rw at at a in
          record {
            is = record { table = rw more (table_more p.table l (sym e ∙ h) here put); fresh = fresh_more put refl p.fresh; long = put.long; only = put_within put here.below };
            low = omega arith;
          }

-- what a link goes on by
pub ruleset counting = (few_more, room_left, names_inside, row_small)

-- ---- the pass

-- The state at link i: the table has m rows for the first i links.
pub record Linking (text before work : List ℕ) (b : Bases) (n : Counts) (i m : ℕ) : Type 0 where
  pub readable : Readable text before b n
  pub short : length text ≤ 1048576
  pub high : i ≤ n.links
  pub is : NodesIs text before work b n i m

-- the tables stand, whatever nodes are found
pub nodes_stand : {text before work : List ℕ} {b : Bases} {n : Counts} {i m : ℕ} → NodesIs text before work b n i m → TablesKept b n before work
nodes_stand {b = b} {n = n} q = only_kept b.lines (tables_end b n) q.only (inl (omega arith), tt)

module _ {text before : List ℕ} {b : Bases} {n : Counts} where
  pub linking_start : Readable text before b n → length text ≤ 1048576 → Linking text before before b n 0 0
  unfolding names_to each_once keep
  linking_start t l =
      let none : NodeTable text (segments_of text before b n) [] before (tables_end b n) 0 =
      record { names = refl; apart = record { differ = λ i j h k. absurd (omega arith) }; inside = λ k h. absurd (omega arith); rows = λ k h. absurd (omega arith); few = omega arith } in
      record {
        readable = t;
        short = l;
        high = omega arith;
        is = record { table = rw (links_zero text before b) none; fresh = record { row = λ k h. absurd (omega arith) }; long = refl; only = only_none };
      }

  module _ {work : List ℕ} {i m : ℕ} (s : Linking text before work b n i m) where
    pub linking_ready : i < n.links → LinkReady text work b n i m
    linking_ready h =
        let r = s.readable in
        let k = nodes_stand s.is in
        record {
          readable = readable_stands r k s.is.long;
          short = s.short;
          below = h;
          table = rw (segments_stand r k, links_stand r k i s.high) s.is.table;
          fresh = s.is.fresh;
        }

    pub linking_more : {work' : List ℕ} {r : ℕ} → i < n.links → LinkAdded text work work' b n i m r → Linking text before work' b n (i + 1) r
    linking_more {work'} {r} h q =
        let t = s.readable in
        let k = nodes_stand s.is in
        let table = tables_end b n in
        record {
          readable = s.readable;
          short = s.short;
          high = omega arith;
          is =
              record {
                table = rw (segments_stand t k, links_stand t k (i + 1) (omega arith)) at q.is.table;
                fresh = q.is.fresh;
                long = q.is.long ∙ s.is.long;
                only = only_then (span table (nodes_end table r) ∷ []) s.is.only q.is.only (λ j o. ((outside_less table (nodes_end table m) o.0 (omega arith) (omega (arith, q.low)), tt), o));
              };
        }

    pub linking_end : n.links ≤ i → NodesIs text before work b n n.links m
    linking_end h = let e : i ≡ n.links = omega (arith, s.high) in subst (λ k. NodesIs text before work b n k m) e s.is
