-- The ends of links as node numbers, and which links are removed. Document 01, "Folding", rule 6.
use Rattle.std.specs.Prelude.{ℕ, ◌+◌, ◌≤◌, ◌<◌, Bool, true, Option, List, [], ◌∷◌, ◌++◌, map, ◌≡◌, length}
use Rattle.gfa_spec.specs.Bytes.{count, keep, sum, distinct}
use Rattle.gfa_spec.specs.Reading.{Segment}
use Rattle.gfa_spec.specs.Records.{is_self_link}
use Rattle.gfa_spec.specs.Runs.{bit}
use Rattle.normalize_spec.specs.Links.{is_removed}
use Rattle.work.specs.Rows.{Only, word_of}
use Rattle.tables.specs.declared.tables.Bases.{Bases}
use Rattle.tables.specs.declared.tables.Counts.{Counts}
use Rattle.tables.specs.Segments.{ids_of}
use Rattle.scan.specs.Places.{bytes_in}
use Rattle.tables.specs.declared.rows.LinkWords.{LinkWords}
use Rattle.tables.specs.ByNumber.{link_no, segments_of, links_to, link_of}
use Rattle.normalize_tables.specs.declared.layout.Layout.{Layout}
use Rattle.normalize_tables.specs.declared.layout.Made.{Made}
use Rattle.normalize_tables.specs.Layout.{Source}
use Rattle.normalize_tables.specs.Marks.{Marked}
use Rattle.normalize_tables.specs.News.{first_of, names_at, place_of}
use Rattle.normalize_tables.specs.NewByNumber.{new_paths_to, ends_no, EndsRoom, ends_span}
use Rattle.normalize_tables.specs.Rewritten.{NewRows}
use Rattle.normalize_tables.specs.declared.rows.Ends.{Ends}
use Rattle.new_ids.specs.Ids.{NodeIs}

-- ---- what is asked

-- What is asked before the links are settled: the tables of a text, the new segments, steps and paths; no two nodes have one ID; and the new
-- steps are those of the new paths.
pub record Relinkable (text work : List ℕ) (b : Bases) (n : Counts) (g : Layout) (m : Made) : Type 0 where
  pub source : Source text work b n g
  pub rows : NewRows work n g m
  pub apart : distinct (names_at text work b n g (first_of m.first) m.segs) ≡ true
  pub steps : m.steps ≡ sum (map length (new_paths_to (names_at text work b n g (first_of m.first) m.segs) work g n.paths))

-- ---- the ends of a link

-- Is the link, whose first node has the number `from`, removed?
pub record GoneIs (text work : List ℕ) (b : Bases) (n : Counts) (g : Layout) (l : LinkWords) (from : Option ℕ) (r : Bool) : Type 0 where
  pub answer : (p : Segment → Bool) (more : List (List ℕ)) → Marked p text work b n g.folded
      → from ≡ place_of (ids_of (segments_of text work b n) ++ more) (bytes_in text l.from)
      → r ≡ is_removed (keep p (segments_of text work b n)) (link_of text l)
  pub few : bit r ≤ bit (is_self_link (link_of text l))

-- The ends of a link; their words are small.
pub record EndsIs (text work : List ℕ) (b : Bases) (n : Counts) (g : Layout) (m : Made) (l : LinkWords) (r : Ends) : Type 0 where
  pub from : NodeIs text work b n g (first_of m.first) m.segs l.from r.from
  pub to : NodeIs text work b n g (first_of m.first) m.segs l.to r.to
  pub gone : GoneIs text work b n g l r.from r.gone
  pub small : (word_of r.from < 4294967296) × (word_of r.to < 4294967296)
  pub room : EndsRoom work g n.links

-- What the row of link i says: its nodes, and whether it is removed.
pub record EndsRow (text : List ℕ) (names : List (List ℕ)) (fs : List Segment) (work : List ℕ) (b : Bases) (g : Layout) (i : ℕ) : Type 0 where
  pub from : (ends_no work g i).from ≡ place_of names (link_no text work b i).from
  pub to : (ends_no work g i).to ≡ place_of names (link_no text work b i).to
  pub gone : (ends_no work g i).gone ≡ is_removed fs (link_no text work b i)

-- The words of link i are put; the answer is whether it is removed.
pub record EndsSettled (text before work : List ℕ) (b : Bases) (n : Counts) (g : Layout) (m : Made) (i : ℕ) (r : Bool) : Type 0 where
  pub ready : Relinkable text work b n g m
  pub row : (p : Segment → Bool) → Marked p text before b n g.folded
      → EndsRow text (names_at text before b n g (first_of m.first) m.segs) (keep p (segments_of text before b n)) work b g i
  pub answer : r ≡ (ends_no work g i).gone
  pub few : bit r ≤ bit (is_self_link (link_no text before b i))
  pub long : length work ≡ length before
  pub only : Only (ends_span g i (i + 1) ∷ []) before work

-- The words of all links are put, and the removed ones counted.
pub record AllEnds (text before work : List ℕ) (b : Bases) (n : Counts) (g : Layout) (m : Made) (r : ℕ) : Type 0 where
  pub ready : Relinkable text work b n g m
  pub rows : (p : Segment → Bool) → Marked p text before b n g.folded → (i : ℕ) → i < n.links
      → EndsRow text (names_at text before b n g (first_of m.first) m.segs) (keep p (segments_of text before b n)) work b g i
  pub removed : (p : Segment → Bool) → Marked p text before b n g.folded
      → r ≡ count (is_removed (keep p (segments_of text before b n))) (links_to text before b n.links)
  pub few : r ≤ count is_self_link (links_to text before b n.links)
  pub long : length work ≡ length before
  pub only : Only (ends_span g 0 n.links ∷ []) before work
