-- The loop that writes the nodes of a list of numbers. Assumes nothing.
use Prim.Native.Nat.{ℕ, ◌+◌, ◌<◌}
use mathlib.Core.List.{List, map, map-append}
use mathlib.Core.Path.{◌≡◌}
use lib.ListN.{get_or}
use Rattle.gfa_spec.specs.Bytes.{join, ended}
use Rattle.work.specs.Rows.{rows_at}
use Rattle.tables.specs.declared.tables.Bases.{Bases}
use Rattle.tables.specs.declared.tables.Counts.{Counts}
use Rattle.writers.specs.declared.writer.Writer.{Writer}
use Rattle.writers.specs.Writers.{Puts}
use Rattle.writers.proofs.Writing.{as_piece, puts_nothing, ◌▷◌}
use Rattle.writers.proofs.Joining.{join_last, ended_append}
use Rattle.report_spec.specs.Lines.{node_lines}
use Rattle.ranks.specs.Ranking.{nums_at}
use Rattle.ranks.proofs.Merges.{nums_snoc}
use Rattle.node_lines.specs.NodeLines.{node_in, Printable, listed, Listed}

-- the node of number i can be written
pub listed_row : {text work : List ℕ} {b : Bases} {n : Counts} {nums count i v : ℕ} → Listed text work b n nums count → i < count → v ≡ get_or work (nums + i) 0 → Printable text work b n v
listed_row l h e = rw e (l.rows _ h)

-- The state at i: the first i nodes are written.
abbrev pub Listing : List ℕ → List ℕ → Bases → Counts → ℕ → Writer → Writer → ℕ → Type 0
Listing text work b n nums first now i = Puts first (ended (join (map node_lines (listed text work b n nums i)))) now

module _ (text work : List ℕ) (b : Bases) (n : Counts) (nums : ℕ) {first : Writer} where
  pub listing_start : Listing text work b n nums first first 0
  unfolding listed nums_at rows_at ended join
  listing_start = puts_nothing

  pub listing_more : {now after : Writer} {v : ℕ} (i : ℕ) → Listing text work b n nums first now i → v ≡ get_or work (nums + i) 0 → Puts now (ended (node_lines (node_in text work b n v))) after
      → Listing text work b n nums first after (i + 1)
  unfolding listed
  listing_more i p e q =
      let lines = map node_lines (map (node_in text work b n) (nums_at work nums i)) in
      as_piece (rw (nums_snoc work nums i, map-append, map-append, join_last lines, ended_append, e)) (p ▷ q)
