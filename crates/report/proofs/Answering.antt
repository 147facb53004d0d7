-- What is asked before the report is written, and that what was ranked may be. Assumes nothing.
use Prim.Native.Nat.{ℕ, ◌+◌, ◌≤◌, ◌<◌, min}
use native.Mathlib.Omega.{arith}
use mathlib.Core.Bool.{Bool}
use mathlib.Core.List.{List, map, append_assoc}
use Rattle.std.specs.Prelude.{Option, None, Some}
use mathlib.Core.Path.{◌≡◌, refl}
use lib.ListN.{get_or}
use Rattle.gfa_spec.specs.Bytes.{join, ended}
use Rattle.report_spec.specs.Lines.{node_lines}
use Rattle.gfa_spec.specs.Reading.{Entry}
use Rattle.gfa_spec.specs.Records.{segment_number}
use Rattle.tables.specs.declared.tables.Bases.{Bases}
use Rattle.tables.specs.declared.tables.Counts.{Counts}
use Rattle.tables.specs.ByNumber.{segments_of, links_to, tables_end}
use Rattle.tables.specs.Segments.{segment_found, FoundBelow}
use Rattle.tables.specs.Tables.{Readable}
use Rattle.writers.specs.declared.writer.Writer.{Writer}
use Rattle.writers.specs.Writers.{Puts}
use Rattle.writers.proofs.Writing.{as_piece, ◌▷◌}
use Rattle.report_spec.specs.Nodes.{nodes, node_of}
use Rattle.report.specs.declared.totals.Totals.{Totals}
use Rattle.report.specs.declared.totals.Areas.{Areas}
use Rattle.nodes.specs.Table.{name_no, links_among}
use Rattle.tables.proofs.ByNumber.{links_length, segments_length, paths_length}
use Rattle.tally.specs.Tabled.{Tabled}
use Rattle.ranks.specs.Ranking.{nums_at, up_to}
use Rattle.ranks.specs.Sorting.{sort_by}
use Rattle.node_lines.specs.NodeLines.{node_in, Printable, listed, Listed}
use Rattle.node_lines.specs.Groups.{buckets, RowNumbers, Sized, BucketsIs}
use Rattle.report.specs.Totals.{lengths_of, ranks_of, areas_of, Ranked, total_lines, report_from, Reportable}
use Rattle.ranks.proofs.Sorting.{sort_each}
use Rattle.nodes.proofs.Pairs.{bits_small}
use Rattle.ranks.proofs.Merges.{nums_below}
use Rattle.node_lines.proofs.Lengths.{sorted_rising}
use Rattle.ranks.proofs.Numbering.{each_up}
use Rattle.report.proofs.Reported.{number_small, EntriesAre, listed_by_length}

-- ---- what the writers ask

-- a segment's number is one of the table
below : (o : Option ℕ) (n : ℕ) → ((k : ℕ) → o ≡ Some k → k < n) → FoundBelow n (segment_found o)
below None n h = tt
below (Some k) n h = h k refl

module _ {text w : List ℕ} {b : Bases} {n : Counts} {m : ℕ} {a : Areas} (t : Readable text w b n) (v : Reportable text w b n m) (e : a ≡ areas_of b n) where
  pub numbered : RowNumbers w a.table a.lengths m
  numbered =
      rw e
      (record {
        room = omega (arith, t.laid.steps, v.few);
        few = omega (arith, t.few.2, v.few);
        rows = λ k h. omega (arith, v.lengths k h, t.laid.steps, v.few);
      })

  pub to_list : {count : ℕ} (top : ℕ) → count ≡ min top m → Listed text w b n a.ranks count
  to_list top f =
      rw e
      (record {
        room = omega (arith, t.laid.steps, v.few);
        few = omega (arith, t.few.2, v.few);
        rows = λ k h. v.rows (get_or w (ranks_of b n + k) 0) (v.ranks k (omega arith));
      })

module _ {text w : List ℕ} {b : Bases} {n : Counts} {m : ℕ} {a : Areas} (v : Reportable text w b n m) (e : a ≡ areas_of b n) where
  -- the nodes have their rows' lengths and self-links
  sized : Sized (node_in text w b n) w (tables_end b n)
  unfolding node_in
  sized = record { long = λ i. refl; links = λ i. refl }

  pub whole : (t : Totals) (top : ℕ) {count : ℕ} {p q r s : Writer} → Puts p (ended (total_lines t m)) q → BucketsIs q w a.table a.lengths m r → count ≡ min top m
      → Puts r (ended (join (map node_lines (listed text w b n a.ranks count)))) s → Puts p (report_from text w b n m t top) s
  unfolding report_from listed
  whole t top x c f d =
      let totals = ended (total_lines t m) in
      let lengths = ended (buckets (listed text w b n (lengths_of b n) m)) in
      let ranks = ended (join (map node_lines (listed text w b n (ranks_of b n) (min top m)))) in
      as_piece (append_assoc totals lengths ranks) (x ▷ (rw e at c).puts (node_in text w b n) sized v.rising ▷ (rw (e, f) at d))

-- ---- what was ranked can be written

module _ {es : List Entry} {text w w' : List ℕ} {b : Bases} {n : Counts} {m : ℕ} (x : EntriesAre es text w b n) (l : Tabled text w b n) (r : Ranked text w w' b n m) where
  few_rows : m ≤ n.links
  few_rows = omega (arith, r.table.few, links_length text w b n.links)

  row_printable : (k : ℕ) → k < m → Printable text w' b n k
  row_printable k h =
      let q = r.table.rows k h in
      let name = name_no text w' (tables_end b n) k in
      let ss = segments_of text w b n in
      record {
        room = omega (arith, l.readable.laid.steps, few_rows, r.long);
        name = r.table.inside k h;
        segment = rw q.number (below (segment_number ss name) n.segs (λ k e. omega (arith, segments_length text w b n.segs, number_small ss name k e)));
        bits = rw q.bits (bits_small (links_among (links_to text w b n.links) name));
        path = rw paths_length at (r.counts.row k h).known;
      }

  -- the numbers, in either order, are those of rows
  numbers_below : (before : ℕ → ℕ → Bool) (at : ℕ) → nums_at w' at m ≡ sort_by before (up_to m) → (k : ℕ) → k < m → get_or w' (at + k) 0 < m
  numbers_below before at e k h = nums_below w' at m m k (rw e (sort_each before (λ i. i < m) (up_to m) (each_up m))) h

  pub ranked_reportable : Reportable text w' b n m
  ranked_reportable =
      record {
        few = few_rows;
        rows = row_printable;
        lengths = numbers_below _ (lengths_of b n) r.by_length;
        ranks = numbers_below _ (ranks_of b n) r.by_rank;
        rising = rw (listed_by_length x l r) (sorted_rising (map (node_of es) (nodes es)));
      }
