-- The node table: a row for each node with a self-link. No width and no place of a row is named above this file and its laws.
use Rattle.std.specs.Prelude.{ℕ, zero, suc, ◌+◌, ◌*◌, ◌/◌, ◌%◌, ◌≤◌, ◌<◌, Bool, true, false, cond, ◌&&◌, List, [], ◌∷◌, ◌++◌, map, ◌≡◌, eqb, length, get_or}
use Rattle.std.specs.Prelude.{Option, Some, None, option_map}
use Rattle.gfa_spec.specs.Bytes.{same, any, keep}
use Rattle.gfa_spec.specs.Reading.{Segment, Link, Path}
use Rattle.gfa_spec.specs.Records.{segment_number, sequence_or_empty, is_self_link}
use Rattle.gfa_spec.specs.Runs.{bit}
use Rattle.gfa_spec.specs.Sequences.{sequence_len}
use Rattle.scan.specs.declared.places.Place.{Place}
use Rattle.scan.specs.Orientations.{sign_of}
use Rattle.scan.specs.Places.{bytes_in, Inside}
use Rattle.work.specs.Rows.{span, Only, word_of, number_in}
use Rattle.tables.specs.declared.tables.Bases.{Bases}
use Rattle.tables.specs.declared.tables.Counts.{Counts}
use Rattle.tables.specs.declared.entry.SegmentNo.{SegmentNo}
use Rattle.tables.specs.declared.rows.LinkWords.{LinkWords}
use Rattle.tables.specs.Segments.{segment_found, FoundBelow}
use Rattle.tables.specs.ByNumber.{segments_of, place_at}
use Rattle.report_spec.specs.Nodes.{each_once}
use Rattle.nodes.specs.declared.counters.Counter.{Counter}
use Rattle.nodes.specs.declared.nodes.NodeWords.{NodeWords}
use Rattle.nodes.specs.declared.segment.Known.{Known}
use Rattle.nodes.specs.Counters.{path_found, CounterOf}

-- ---- a row

-- the word behind the first m rows
abbrev pub nodes_end : ℕ → ℕ → ℕ
nodes_end table m = table + 14 * m

-- the word for a segment's number that may be missing
abbrev pub segment_word : Option SegmentNo → ℕ
segment_word o = word_of (option_map (λ k. k.0) o)

-- what the links say of node k
unfoldable pub node_no : List ℕ → ℕ → ℕ → NodeWords
node_no work table k =
    record {
      name = place_at work (table + 14 * k);
      number = segment_found (number_in (get_or work (table + 14 * k + 2) 0));
      long = get_or work (table + 14 * k + 3) 0;
      links = get_or work (table + 14 * k + 4) 0;
      bits = get_or work (table + 14 * k + 5) 0;
    }

-- The words are those of node k; there are no more self-links than a word holds.
pub record NodeRead (work : List ℕ) (table k : ℕ) (r : NodeWords) : Type 0 where
  pub is : r ≡ node_no work table k
  pub small : r.links < 4294967296

-- what the paths say of it
unfoldable pub counter_no : List ℕ → ℕ → ℕ → Counter
counter_no work table k =
    record {
      visits = get_or work (table + 14 * k + 6) 0;
      paths = get_or work (table + 14 * k + 7) 0;
      last = path_found (number_in (get_or work (table + 14 * k + 8) 0));
      adjacent = get_or work (table + 14 * k + 9) 0;
      equal = get_or work (table + 14 * k + 10) 0;
      runs = get_or work (table + 14 * k + 11) 0;
      longest = get_or work (table + 14 * k + 12) 0;
      first = path_found (number_in (get_or work (table + 14 * k + 13) 0));
    }

-- its name
abbrev pub name_no : List ℕ → List ℕ → ℕ → ℕ → List ℕ
name_no text work table k = bytes_in text (node_no work table k).name

-- the names of the first n nodes
unfoldable pub names_to : List ℕ → List ℕ → ℕ → ℕ → List (List ℕ)
names_to text work table zero = []
names_to text work table (suc n) = names_to text work table n ++ (name_no text work table n ∷ [])

-- Row k holds these words and these counters; no word of another row has changed.
pub record RowPut (work work' : List ℕ) (table k : ℕ) (w : NodeWords) (c : Counter) : Type 0 where
  pub words : node_no work' table k ≡ w
  pub counts : counter_no work' table k ≡ c
  pub long : length work' ≡ length work
  pub only : Only (span (nodes_end table k) (nodes_end table (k + 1)) ∷ []) work work'

-- The words of a row fit into the work area's.
pub record SmallNode (w : NodeWords) : Type 0 where
  pub start : w.name.start < 4294967296
  pub size : w.name.size < 4294967296
  pub number : segment_word w.number < 4294967296
  pub long : w.long < 4294967296
  pub links : w.links < 4294967296
  pub bits : w.bits < 4294967296

-- ---- the search for a name

-- The first n rows stand in the work area, and each names a part of the text.
pub record NamesInside (text work : List ℕ) (table n : ℕ) : Type 0 where
  pub room : nodes_end table n ≤ length work
  pub few : n ≤ 2097152
  pub inside : (k : ℕ) → k < n → Inside text (node_no work table k).name

-- None of the first n nodes has the name.
pub record Elsewhere (text work : List ℕ) (table n : ℕ) (name : Place) : Type 0 where
  pub other : (k : ℕ) → k < n → same (name_no text work table k) (bytes_in text name) ≡ false

-- Node k, one of n, has the name.
pub record NodeHas (text work : List ℕ) (table n : ℕ) (name : Place) (k : ℕ) : Type 0 where
  pub below : k < n
  pub same_name : same (name_no text work table k) (bytes_in text name) ≡ true

-- by the cases of the answer
abbrev pub SearchSays : List ℕ → List ℕ → ℕ → ℕ → Place → Option ℕ → Type 0
SearchSays text work table n name (Some k) = NodeHas text work table n name k
SearchSays text work table n name None = Elsewhere text work table n name

-- What a search for a name finds: a node with that name, or that none has it.
pub record SearchIs (text work : List ℕ) (table n : ℕ) (name : Place) (r : Option ℕ) : Type 0 where
  pub says : SearchSays text work table n name r

-- ---- orientation pairs

-- the weight of a pair of signs, + (43) or - (45); 0 where one is none
unfoldable pub weight_of : ℕ → ℕ → ℕ
weight_of a b = cond (eqb a 43) (cond (eqb b 43) 1 (cond (eqb b 45) 2 0)) (cond (eqb a 45) (cond (eqb b 43) 4 (cond (eqb b 45) 8 0)) 0)

-- pairs by their weights, with one more
unfoldable pub marked_of : ℕ → ℕ → ℕ → ℕ
marked_of bits a b = cond (eqb (weight_of a b) 0) bits (cond (eqb (bits / weight_of a b % 2) 1) bits (bits + weight_of a b))

-- a row with a link more
abbrev pub row_with_link : NodeWords → LinkWords → NodeWords
row_with_link w l = record { name = w.name; number = w.number; long = w.long; links = w.links + 1; bits = marked_of w.bits (sign_of l.leaves) (sign_of l.enters) }

-- the pairs that are there, by their weights
unfoldable pub code : Bool → Bool → Bool → Bool → ℕ
code f g h k = bit f + 2 * bit g + 4 * bit h + 8 * bit k

-- does the link have this pair?
unfoldable pub is_pair : ℕ → ℕ → Link → Bool
is_pair a b l = same (a ∷ b ∷ []) (l.from_orientation ∷ l.to_orientation ∷ [])

-- the pairs of some links
unfoldable pub bits_of : List Link → ℕ
bits_of ls = code (any (is_pair 43 43) ls) (any (is_pair 43 45) ls) (any (is_pair 45 43) ls) (any (is_pair 45 45) ls)

-- ---- the segment of a name

-- What is said of the segment of a name.
pub record KnownIs (text work : List ℕ) (b : Bases) (n : Counts) (name : Place) (r : Known) : Type 0 where
  pub number : r.number ≡ segment_found (segment_number (segments_of text work b n) (bytes_in text name))
  pub long : r.long ≡ sequence_len (sequence_or_empty (segments_of text work b n) (bytes_in text name))
  pub below : FoundBelow n.segs r.number
  pub short : r.long ≤ length text

-- ---- the table

-- the self-links of a node, of some links
unfoldable pub links_among : List Link → List ℕ → List Link
links_among ls node = keep (λ l. same l.from node && same l.to node) ls

-- What the links say of a row's node.
pub record LinkCounts (text : List ℕ) (ss : List Segment) (ls : List Link) (w : NodeWords) : Type 0 where
  pub number : w.number ≡ segment_found (segment_number ss (bytes_in text w.name))
  pub long : w.long ≡ sequence_len (sequence_or_empty ss (bytes_in text w.name))
  pub links : w.links ≡ length (links_among ls (bytes_in text w.name))
  pub bits : w.bits ≡ bits_of (links_among ls (bytes_in text w.name))

-- The counters of the first n nodes, once these paths are counted.
pub record CountRows (text : List ℕ) (ps : List Path) (work : List ℕ) (table n : ℕ) : Type 0 where
  pub row : (k : ℕ) → k < n → CounterOf (name_no text work table k) ps (counter_no work table k)

-- No two of the first n nodes have one name.
pub record Differ (text work : List ℕ) (table n : ℕ) : Type 0 where
  pub differ : (i j : ℕ) → i < j → j < n → same (name_no text work table i) (name_no text work table j) ≡ false

-- The table has a row for each node with a self-link among some links.
pub record NodeTable (text : List ℕ) (ss : List Segment) (ls : List Link) (work : List ℕ) (table n : ℕ) : Type 0 where
  pub names : names_to text work table n ≡ each_once [] (map (λ l. l.from) (keep is_self_link ls))
  pub apart : Differ text work table n
  pub inside : (k : ℕ) → k < n → Inside text (node_no work table k).name
  pub rows : (k : ℕ) → k < n → LinkCounts text ss ls (node_no work table k)
  pub few : n ≤ length ls
