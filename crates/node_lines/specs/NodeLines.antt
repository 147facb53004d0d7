-- A node as the report states it, by its row, and the pieces of its lines.
use Rattle.std.specs.Prelude.{ℕ, ◌+◌, ◌/◌, ◌%◌, ◌≤◌, ◌<◌, Bool, cond, List, [], ◌∷◌, ◌++◌, map, eqb, length, get_or}
use Rattle.std.specs.Prelude.{Option, Some, None}
use Rattle.gfa_spec.specs.Bytes.{bytes}
use Rattle.gfa_spec.specs.Sequences.{sequence_preview}
use Rattle.gfa_spec.specs.Reading.{Kind, P, W}
use Rattle.tables.specs.declared.entry.SegmentNo.{SegmentNo}
use Rattle.tables.specs.declared.entry.PathNo.{PathNo}
use Rattle.tables.specs.declared.tables.Bases.{Bases}
use Rattle.tables.specs.declared.tables.Counts.{Counts}
use Rattle.scan.specs.Places.{bytes_in, Inside}
use Rattle.tables.specs.ByNumber.{segment_no, path_no, tables_end}
use Rattle.tables.specs.Segments.{FoundBelow}
use Rattle.report_spec.specs.Nodes.{Node, path_name}
use Rattle.nodes.specs.declared.counters.Counter.{Counter}
use Rattle.nodes.specs.declared.nodes.NodeWords.{NodeWords}
use Rattle.nodes.specs.Counters.{PathBelow}
use Rattle.nodes.specs.Table.{nodes_end, node_no, counter_no}
use Rattle.ranks.specs.Ranking.{order_from, nums_at}

-- is the pair of this weight there?
unfoldable pub has_pair : ℕ → ℕ → Bool
has_pair bits weight = eqb (bits / weight % 2) 1

-- the pairs by their weights, sorted
unfoldable pub pairs_from : ℕ → List (List ℕ)
pairs_from bits =
    cond (has_pair bits 1) (bytes "++" ∷ []) []
    ++ (cond (has_pair bits 2) (bytes "+-" ∷ []) []
    ++ (cond (has_pair bits 4) (bytes "-+" ∷ []) []
    ++ cond (has_pair bits 8) (bytes "--" ∷ []) []))

-- a pair that is there, behind a comma (44) where another is before it
unfoldable pub pair_piece : ℕ → ℕ → ℕ → ℕ → List ℕ
pair_piece bits weight a b = cond (has_pair bits weight) (cond (eqb (bits % weight) 0) (a ∷ b ∷ []) (44 ∷ a ∷ b ∷ [])) []

-- the preview of the segment of a number, nothing where there is none
unfoldable pub preview_from : List ℕ → List ℕ → Bases → Option SegmentNo → List ℕ
preview_from text work b None = []
preview_from text work b (Some k) = sequence_preview (segment_no text work b k.0).sequence

-- the name of a path, nothing where there is none
unfoldable pub path_from : List ℕ → List ℕ → Bases → Option PathNo → List ℕ
path_from text work b None = []
path_from text work b (Some k) = path_name (path_no text work b k.0)

-- the field that holds a path's name, counted from 0
unfoldable pub name_column : Kind → ℕ
name_column P = 1
name_column W = 3

-- the node of such words
abbrev pub node_from : List ℕ → List ℕ → Bases → NodeWords → Counter → Node
node_from text work b w c =
    record {
      name = bytes_in text w.name;
      order = order_from w.number;
      sequence_len = w.long;
      preview = preview_from text work b w.number;
      links = w.links;
      orientations = pairs_from w.bits;
      visits = c.visits;
      paths = c.paths;
      same_node = c.adjacent;
      same_step = c.equal;
      runs = c.runs;
      longest = c.longest;
      longest_path = path_from text work b c.first;
    }

-- node k of the table
unfoldable pub node_in : List ℕ → List ℕ → Bases → Counts → ℕ → Node
node_in text work b n k = node_from text work b (node_no work (tables_end b n) k) (counter_no work (tables_end b n) k)

-- Node k can be written: its name is a part of the text, and its segment and its path are there.
pub record Printable (text work : List ℕ) (b : Bases) (n : Counts) (k : ℕ) : Type 0 where
  pub room : nodes_end (tables_end b n) (k + 1) ≤ length work
  pub name : Inside text (node_no work (tables_end b n) k).name
  pub segment : FoundBelow n.segs (node_no work (tables_end b n) k).number
  pub bits : (node_no work (tables_end b n) k).bits < 16
  pub path : PathBelow n.paths (counter_no work (tables_end b n) k).first

-- What is asked before a node's row is written: its name is a part of the text, and its segment and its path are there.
pub record RowReady (text : List ℕ) (n : Counts) (w : NodeWords) (c : Counter) : Type 0 where
  pub name : Inside text w.name
  pub segment : FoundBelow n.segs w.number
  pub bits : w.bits < 16
  pub path : PathBelow n.paths c.first

-- the nodes whose numbers stand from the word `nums` on
unfoldable pub listed : List ℕ → List ℕ → Bases → Counts → ℕ → ℕ → List Node
listed text work b n nums count = map (node_in text work b n) (nums_at work nums count)

-- The numbers stand in the work area, and the nodes that they name can be written.
pub record Listed (text work : List ℕ) (b : Bases) (n : Counts) (nums count : ℕ) : Type 0 where
  pub room : nums + count ≤ length work
  pub few : count ≤ 2097152
  pub rows : (k : ℕ) → k < count → Printable text work b n (get_or work (nums + k) 0)
