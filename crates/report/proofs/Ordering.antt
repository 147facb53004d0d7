-- The nodes found, counted and ordered. Assumes nothing.
use Prim.Native.Nat.{ℕ, ◌+◌, ◌≤◌, ◌<◌}
use native.Mathlib.Omega.{arith}
use mathlib.Core.List.{List, [], ◌∷◌}
use mathlib.Core.Logic.{◌⊎◌, inl}
use mathlib.Core.Path.{◌≡◌, sym, ap, ◌∙◌}
use Rattle.gfa_spec.specs.Reading.{Segment, Link}
use Rattle.work.specs.Rows.{Range, span, Outside}
use Rattle.work.proofs.Rows.{KeptWords, only_then, only_wider, only_kept, kept_within, outside_less}
use Rattle.tables.specs.declared.tables.Bases.{Bases}
use Rattle.tables.specs.declared.tables.Counts.{Counts}
use Rattle.tables.specs.ByNumber.{tables_end}
use Rattle.nodes.specs.Table.{nodes_end, node_no, NodeTable}
use Rattle.tables.proofs.ByNumber.{links_length, paths_stand}
use Rattle.nodes.proofs.Stored.{names_same, node_stands, counter_stands}
use Rattle.tally.specs.Tabled.{Tabled, NodesIs}
use Rattle.tally.specs.Visits.{Countable, PathsCounted}
use Rattle.tally.proofs.Linking.{tabled_stands, nodes_stand}
use Rattle.ranks.specs.declared.ranking.NodeKey.{NodeKey}
use Rattle.ranks.specs.declared.ranking.Order.TheVariants.{Lengths, Ranks}
use Rattle.ranks.specs.Ranking.{node_key, KeysAre, OrderedIs}
use Rattle.ranks.proofs.Merges.{nums_kept, key_stands, keys_stand}
use Rattle.report.specs.declared.totals.Areas.{Areas}
use Rattle.report.specs.Totals.{lengths_of, ranks_of, areas_of, Orderable, OrderedBoth, Ranked}

-- the table stands where what the links say of each node does
table_stands : {text : List ℕ} {ss : List Segment} {ls : List Link} {w w' : List ℕ} {table m : ℕ} → ((k : ℕ) → k < m → node_no w' table k ≡ node_no w table k)
    → NodeTable text ss ls w table m → NodeTable text ss ls w' table m
table_stands {text} {ss} {ls} {w} {w'} {table} {m} same t =
    record {
      names = names_same text w w' table m (λ k h. ap (λ a. a.name) (same k h)) ∙ t.names;
      apart = record { differ = λ i j h l. rw (same i (omega arith), same j l) (t.apart.differ i j h l) };
      inside = λ k h. rw (same k h) (t.inside k h);
      rows = λ k h. rw (same k h) (t.rows k h);
      few = t.few;
    }

module _ {text w w₁ : List ℕ} {b : Bases} {n : Counts} {m : ℕ} (l : Tabled text w b n) (a : NodesIs text w w₁ b n n.links m) where
  nodes_few : m ≤ n.links
  nodes_few = omega (arith, a.table.few, links_length text w b n.links)

  now_tabled : Tabled text w₁ b n
  now_tabled = tabled_stands l a.long (nodes_stand a)

  now_countable : Countable text w₁ (tables_end b n) m
  now_countable =
      let r = l.readable in
      record {
        names = record { room = omega (arith, r.laid.steps, nodes_few, a.long); few = omega (arith, r.few.2, nodes_few); inside = a.table.inside };
        apart = a.table.apart;
      }

  module _ {w₂ w₃ w₄ : List ℕ} (c : PathsCounted text w₁ w₂ b n m) (d : OrderedIs Lengths w₂ w₃ (tables_end b n) m (lengths_of b n) (areas_of b n).spare)
      (e : OrderedIs Ranks w₃ w₄ (tables_end b n) m (ranks_of b n) (areas_of b n).spare) where
    first_kept : KeptWords 0 (lengths_of b n) w₂ w₃
    first_kept = only_kept 0 (lengths_of b n) d.only (inl (omega arith), (inl (omega arith), tt))

    second_kept : KeptWords 0 (ranks_of b n) w₃ w₄
    second_kept = only_kept 0 (ranks_of b n) e.only (inl (omega arith), (inl (omega arith), tt))

    rows_kept : KeptWords (tables_end b n) (nodes_end (tables_end b n) m) w₂ w₄
    rows_kept = record { word = λ i p q. second_kept.word i (omega arith) (omega (arith, nodes_few)) ∙ first_kept.word i (omega arith) (omega (arith, nodes_few)) }

    now_ranked : Ranked text w w₄ b n m
    now_ranked =
        record {
          table = table_stands (λ k h. node_stands rows_kept k h ∙ c.frame.nodes_same k h) a.table;
          counts = record { row = λ k h. rw (← paths_stand l.readable (nodes_stand a), node_stands rows_kept k h, counter_stands rows_kept k h) (c.rows.row k h) };
          by_length = nums_kept second_kept (lengths_of b n) m (omega arith) (omega (arith, nodes_few)) ∙ d.sorted keys mine;
          by_rank = e.sorted keys (keys_stand (kept_within (tables_end b n) (nodes_end (tables_end b n) m) first_kept (omega arith) (omega (arith, nodes_few))) mine);
          long = e.long ∙ d.long ∙ c.frame.long ∙ a.long;
          only =
              only_then all
              (only_then all (only_wider all a.only table_only) (only_wider all c.frame.only table_only) (λ i o. (o, o)))
              (only_then all
              (only_wider all d.only (λ i o. (within (lengths_of b n) (omega arith) (omega arith) i o.0, (within (areas_of b n).spare (omega arith) (omega arith) i o.0, tt))))
              (only_wider all e.only (λ i o. (within (ranks_of b n) (omega arith) (omega arith) i o.0, (within (areas_of b n).spare (omega arith) (omega arith) i o.0, tt))))
              (λ i o. (o, o)))
              (λ i o. (o, o));
        }
      where
        all : List Range
        all = span (tables_end b n) ((areas_of b n).spare + n.links) ∷ []

        within : (at : ℕ) → tables_end b n ≤ at → at + n.links ≤ (areas_of b n).spare + n.links → (i : ℕ) → (i < tables_end b n) ⊎ ((areas_of b n).spare + n.links ≤ i) → (i < at) ⊎ (at + m ≤ i)
        within at p q i o = outside_less at (at + m) o p (omega (arith, nodes_few))

        table_only : (i : ℕ) → Outside i all → Outside i (span (tables_end b n) (nodes_end (tables_end b n) m) ∷ [])
        table_only i o = (outside_less (tables_end b n) (nodes_end (tables_end b n) m) o.0 (omega arith) (omega (arith, nodes_few)), tt)

        keys : ℕ → NodeKey
        keys i = node_key w₄ (tables_end b n) i

        mine : KeysAre keys w₂ (tables_end b n) m
        mine = record { key = λ i h. sym (key_stands rows_kept i h) }

-- ---- what the passes ask, and what they leave

module _ {text w w₁ : List ℕ} {b : Bases} {n : Counts} {m : ℕ} (a : NodesIs text w w₁ b n n.links m) (l : Tabled text w b n) where
  pub nodes_tabled : Tabled text w₁ b n
  nodes_tabled = now_tabled l a

  pub nodes_countable : Countable text w₁ (tables_end b n) m
  nodes_countable = now_countable l a

-- the work area comes back as the passes left it
module _ {text w w₁ w₂ x : List ℕ} {b : Bases} {n : Counts} {m : ℕ} {areas : Areas} (l : Tabled text w b n) (a : NodesIs text w w₁ b n n.links m) (c : PathsCounted text w₁ w₂ b n m)
    (e : areas ≡ areas_of b n) (back : x ≡ w₂) where
  pub orderable : Orderable x areas m
  orderable =
      let f = nodes_few l a in
      rw (e, back)
      (record {
        table = omega (arith, f);
        lengths = omega (arith, f);
        ranks = omega (arith, f);
        room = omega (arith, f, l.readable.laid.steps, a.long, c.frame.long);
        few = omega (arith, f, l.readable.few.2);
      })

  pub ranked : {w₃ : List ℕ} → OrderedBoth x w₃ areas m → Ranked text w w₃ b n m
  ranked o = now_ranked l a c (rw (e, back) at o.by_length) (rw e at o.by_rank)

pub ordered_both : {work between work' : List ℕ} {a : Areas} {m : ℕ} → OrderedIs Lengths work between a.table m a.lengths a.spare
    → OrderedIs Ranks between work' a.table m a.ranks a.spare → OrderedBoth work work' a m
ordered_both d e = record { between = _; by_length = d; by_rank = e; long = e.long ∙ d.long }
