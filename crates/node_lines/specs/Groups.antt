-- Buckets, and the groups of nodes that they are written for.
use Rattle.std.specs.Prelude.{ℕ, ◌+◌, ◌-◌, ◌≤◌, ◌<◌, List, [], ◌∷◌, map, ◌≡◌, length, get_or}
use Rattle.gfa_spec.specs.Bytes.{bytes, sum, join_with, ended, Each}
use Rattle.gfa_spec.specs.Decimal.{decimal}
use Rattle.writers.specs.declared.writer.Writer.{Writer}
use Rattle.writers.specs.Writers.{Puts}
use Rattle.report_spec.specs.Nodes.{Node}
use Rattle.report_spec.specs.Order.{lengths}
use Rattle.report_spec.specs.Lines.{line, bucket_line}
use Rattle.nodes.specs.Table.{nodes_end, node_no}
use Rattle.node_lines.specs.declared.buckets.Group.{Group}
use Rattle.ranks.specs.Ranking.{nums_at}

-- the buckets of nodes
unfoldable pub buckets : List Node → List (List ℕ)
buckets ns = map (bucket_line ns) (lengths ns)

-- the line of a bucket
unfoldable pub bucket_of : ℕ → ℕ → ℕ → List ℕ
bucket_of long nodes links = line (bytes "length_bucket") (join_with 44 (decimal long ∷ decimal nodes ∷ decimal links ∷ []))

-- no node is longer than one behind it
abbrev pub Rising : List Node → Type 0
Rising [] = Unit {0}
Rising (a ∷ xs) = Each (λ b. a.sequence_len ≤ b.sequence_len) xs × Rising xs

-- The m numbers from the word `nums` on are those of rows. `Groups` holds it; it is asked where one is made, and of the reader that it calls.
pub record RowNumbers (work : List ℕ) (table nums m : ℕ) : Type 0 where
  pub room : nums + m ≤ length work
  pub few : m ≤ 2097152
  pub rows : (k : ℕ) → k < m → nodes_end table (get_or work (nums + k) 0 + 1) ≤ length work

-- the length of the node of number k, and the self-links of n nodes from number i on
unfoldable pub long_of : List ℕ → ℕ → ℕ → ℕ → ℕ
long_of work table nums k = (node_no work table (get_or work (nums + k) 0)).long

unfoldable pub group_links : List ℕ → ℕ → ℕ → ℕ → ℕ → ℕ
group_links work table nums i n = sum (map (λ k. (node_no work table k).links) (nums_at work (nums + i) n))

-- The numbers from i up to the end have one length, and the next, if there is one, has another.
pub record GroupIs (work : List ℕ) (table nums m i : ℕ) (g : Group) : Type 0 where
  pub start : g.start ≡ i
  pub low : i < g.end
  pub high : g.end ≤ m
  pub long : g.long ≡ long_of work table nums i
  pub same : (k : ℕ) → i ≤ k → k < g.end → long_of work table nums k ≡ g.long
  pub stop : g.end < m → long_of work table nums g.end ≡ g.long → ⊥
  pub links : g.links ≡ group_links work table nums i (g.end - i)

-- A node for each number, with the length and the self-links of its row.
pub record Sized (node : ℕ → Node) (work : List ℕ) (table : ℕ) : Type 0 where
  pub long : (i : ℕ) → (node i).sequence_len ≡ (node_no work table i).long
  pub links : (i : ℕ) → (node i).links ≡ (node_no work table i).links

-- The buckets of nodes that rise by length were written. Whatever the lengths are, the writer keeps its buffer and its limit.
pub record BucketsIs (before : Writer) (work : List ℕ) (table nums m : ℕ) (after : Writer) : Type 0 where
  pub same : after.out.ghost_name ≡ before.out.ghost_name
  pub limit : after.limit ≡ before.limit
  pub puts : (node : ℕ → Node) → Sized node work table → Rising (map node (nums_at work nums m)) → Puts before (ended (buckets (map node (nums_at work nums m)))) after
