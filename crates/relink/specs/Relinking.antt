-- The links that are kept, and those that are added. Document 01, "Folding", rule 6.
use native.Mathlib.Omega.{arith}
use Rattle.std.specs.Prelude.{ℕ, ◌+◌, ◌-◌, ◌≤◌, ◌<◌, Bool, true, cond, not, ◌&&◌, List, [], ◌∷◌, ◌++◌, map, ◌≡◌, eqb, length}
use Rattle.std.specs.Prelude.{Some}
use Rattle.std.specs.Option.{option_eq}
use Rattle.gfa_spec.specs.Bytes.{any, count, keep, join, distinct}
use Rattle.gfa_spec.specs.Reading.{Segment}
use Rattle.gfa_spec.specs.Records.{is_self_link}
use Rattle.normalize_spec.specs.Folding.{same_new_node}
use Rattle.normalize_spec.specs.Links.{Key, is_removed, same_key, key_of, adjacent, missing}
use Rattle.scan.specs.Orientations.{sign_of}
use Rattle.work.specs.Rows.{EachRow, span, Only}
use Rattle.tables.specs.declared.tables.Bases.{Bases}
use Rattle.tables.specs.declared.tables.Counts.{Counts}
use Rattle.tables.specs.ByNumber.{link_no, segments_of, links_to}
use Rattle.normalize_tables.specs.declared.layout.Layout.{Layout}
use Rattle.normalize_tables.specs.declared.layout.Made.{Made}
use Rattle.normalize_tables.specs.Marks.{Marked}
use Rattle.normalize_tables.specs.News.{first_of, names_at, keys_at, KeyRow}
use Rattle.normalize_tables.specs.NewByNumber.{ends_end, new_step_no, new_steps_from, new_paths_to, NewStepIs, step_in, step_is}
use Rattle.normalize_tables.specs.Rewritten.{Relinked}
use Rattle.normalize_tables.specs.declared.rows.Ends.{Ends}
use Rattle.link_ends.specs.LinkEnds.{Relinkable, EndsRow}
use Rattle.relink.specs.declared.lookup.Pair.{Pair}
use Rattle.relink.specs.declared.tallies.Tally.{Tally}
use Rattle.relink.specs.declared.settle.Links.{Links}

-- ---- pairs and links

-- The first `added` words of the added links may be relied on, and there is room for them.
pub record AddedRows (work : List ℕ) (n : Counts) (g : Layout) (m : Made) (added : ℕ) : Type 0 where
  pub keys : EachRow (KeyRow m.steps) 1 work g.added added
  pub high : added ≤ n.steps

-- What the words of the links' ends say of these names and these folded segments.
pub record Ended (text : List ℕ) (names : List (List ℕ)) (fs : List Segment) (work : List ℕ) (b : Bases) (n : Counts) (g : Layout) (m : Made) : Type 0 where
  pub apart : distinct names ≡ true
  pub all : length names ≡ n.segs + m.segs
  pub ends : (i : ℕ) → i < n.links → EndsRow text names fs work b g i

-- the four parts of a new step and the step behind it
abbrev pub pair_no : List (List ℕ) → List ℕ → Layout → ℕ → Key
pair_no names work g step = record { from = new_step_no names work g step; to = new_step_no names work g (step + 1) }

-- the same by the words of a pair
abbrev pub key_in : List (List ℕ) → Pair → Key
key_in names p = record { from = step_in names p.first; to = step_in names p.second }

-- The words are those of a new step and the step behind it.
pub record PairIs (work : List ℕ) (n : Counts) (g : Layout) (m : Made) (step : ℕ) (p : Pair) : Type 0 where
  pub first : NewStepIs work n g m step p.first
  pub second : NewStepIs work n g m (step + 1) p.second
  pub few : n.segs + m.segs < 4294967296

-- A pair of nodes that there are.
abbrev pub PairThere : Counts → Made → Pair → Type 0
PairThere n m p = (p.first.node < n.segs + m.segs) × (p.second.node < n.segs + m.segs)

-- the kept links of the text, by their four parts
abbrev pub kept_keys : List ℕ → List Segment → List ℕ → Bases → ℕ → List Key
kept_keys text fs work b i = map key_of (keep (λ l. not (is_removed fs l)) (links_to text work b i))

-- two pairs have the same words: what `==` says of them, by `eq_pairs` of proofs/Lookups
abbrev pub pair_is : Pair → Pair → Bool
pair_is p q = step_is p.first q.first && step_is p.second q.second

-- the nodes of a link are those of the pair
abbrev pub nodes_are : Pair → Ends → Bool
nodes_are p e = option_eq eqb e.from (Some p.first.node) && option_eq eqb e.to (Some p.second.node)

-- its orientations are
abbrev pub marks_are : Pair → ℕ → ℕ → Bool
marks_are p leaves enters = eqb (sign_of p.first.mark) leaves && eqb (sign_of p.second.mark) enters

-- Link i of the text is kept, and has the parts of the pair.
pub record LinkMatch (text work : List ℕ) (b : Bases) (n : Counts) (g : Layout) (m : Made) (p : Pair) (i : ℕ) (r : Bool) : Type 0 where
  pub answer : (names : List (List ℕ)) (fs : List Segment) → Ended text names fs work b n g m
      → r ≡ (not (is_removed fs (link_no text work b i)) && same_key (key_in names p) (key_of (link_no text work b i)))

-- A kept link of the text has them.
pub record KeptIs (text work : List ℕ) (b : Bases) (n : Counts) (g : Layout) (m : Made) (p : Pair) (r : Bool) : Type 0 where
  pub answer : (names : List (List ℕ)) (fs : List Segment) → Ended text names fs work b n g m
      → r ≡ any (same_key (key_in names p)) (kept_keys text fs work b n.links)

-- An added link has them.
pub record AddedMatch (work : List ℕ) (n : Counts) (g : Layout) (m : Made) (added : ℕ) (p : Pair) (r : Bool) : Type 0 where
  pub answer : (names : List (List ℕ)) → distinct names ≡ true → length names ≡ n.segs + m.segs
      → r ≡ any (same_key (key_in names p)) (keys_at names g.steps work g.added added)

-- A kept or an added link has them. There is room for one word for each step.
pub record LinkFound (text work : List ℕ) (b : Bases) (n : Counts) (g : Layout) (m : Made) (added : ℕ) (p : Pair) (r : Bool) : Type 0 where
  pub answer : (names : List (List ℕ)) (fs : List Segment) → Ended text names fs work b n g m
      → r ≡ any (same_key (key_in names p)) (kept_keys text fs work b n.links ++ keys_at names g.steps work g.added added)
  pub room : g.added + n.steps ≤ length work
  pub few : n.steps ≤ 2097152
  pub made : m.steps ≤ n.steps

-- ---- added links

-- the added links, and those that are missing among more pairs
abbrev pub added_with : List ℕ → List (List ℕ) → List Segment → List ℕ → Bases → Counts → Layout → ℕ → List Key → List Key
added_with text names fs work b n g added ks =
    keys_at names g.steps work g.added added ++ missing (kept_keys text fs work b n.links ++ keys_at names g.steps work g.added added) ks

-- the tally with one link more
abbrev pub with_link : Tally → Bool → Tally
with_link s same = cond same (record { added = s.added + 1; loops = s.loops + 1; few = omega (arith, s.few) }) (record { added = s.added + 1; loops = s.loops; few = omega (arith, s.few) })

-- a link from a node to itself
abbrev pub is_loop : Key → Bool
is_loop k = same_new_node k.from k.to

-- Of the pairs `ks` those that are missing are added, and the pairs `left` are left.
pub record AddsLinks (text : List ℕ) (names : List (List ℕ)) (fs : List Segment) (before work : List ℕ) (b : Bases) (n : Counts) (g : Layout) (s t : Tally) (ks left : List Key) : Type 0 where
  pub all : (more : List Key) → added_with text names fs before b n g s.added (ks ++ more) ≡ added_with text names fs work b n g t.added (left ++ more)
  pub loops : s.loops ≡ count is_loop (keys_at names g.steps before g.added s.added) → t.loops ≡ count is_loop (keys_at names g.steps work g.added t.added)

-- What changes where links are added: at most so many words of their table.
pub record Grows (before work : List ℕ) (n : Counts) (g : Layout) (m : Made) (s t : Tally) (most : ℕ) : Type 0 where
  pub low : s.added ≤ t.added
  pub high : t.added ≤ s.added + most
  pub loops : t.loops + s.added ≤ s.loops + t.added
  pub rows : AddedRows work n g m t.added
  pub long : length work ≡ length before
  pub only : Only (span g.added (g.added + n.steps) ∷ []) before work

-- The pair of a new step and the step behind it is added, where no link has its four parts.
pub record PairAdded (text before work : List ℕ) (b : Bases) (n : Counts) (g : Layout) (m : Made) (s : Tally) (step : ℕ) (r : Tally) : Type 0 where
  pub ready : Relinkable text work b n g m
  pub adds : (names : List (List ℕ)) (fs : List Segment) → Ended text names fs before b n g m
      → AddsLinks text names fs before work b n g s r (pair_no names before g step ∷ []) []
  pub grows : Grows before work n g m s r 1

-- The pairs of a new path are.
pub record PathAdded (text before work : List ℕ) (b : Bases) (n : Counts) (g : Layout) (m : Made) (s : Tally) (first end : ℕ) (r : Tally) : Type 0 where
  pub ready : Relinkable text work b n g m
  pub adds : (names : List (List ℕ)) (fs : List Segment) → Ended text names fs before b n g m
      → AddsLinks text names fs before work b n g s r (adjacent (new_steps_from names before g first end)) []
  pub grows : Grows before work n g m s r (end - first)

-- no link is added
abbrev pub none_added : Tally
none_added = record { added = 0; loops = 0; few = omega arith }

-- The pairs of all new paths are.
pub record PathsAdded (text before work : List ℕ) (b : Bases) (n : Counts) (g : Layout) (m : Made) (r : Tally) : Type 0 where
  pub ready : Relinkable text work b n g m
  pub adds : (names : List (List ℕ)) (fs : List Segment) → Ended text names fs before b n g m
      → AddsLinks text names fs before work b n g none_added r (join (map adjacent (new_paths_to names before g n.paths))) []
  pub grows : Grows before work n g m none_added r m.steps

-- ---- the links

-- The links are settled: which are removed, which are added, and how many of those that there are now have equal ends.
pub record SettledIs (text before work : List ℕ) (b : Bases) (n : Counts) (g : Layout) (m : Made) (r : Links) : Type 0 where
  pub settled : (p : Segment → Bool) → Marked p text before b n g.folded
      → Relinked text work b n g (keep p (segments_of text before b n)) m r.added
      × (r.removed ≡ count (is_removed (keep p (segments_of text before b n))) (links_to text before b n.links))
      × (r.loops ≡ count is_self_link (keep (λ l. not (is_removed (keep p (segments_of text before b n)) l)) (links_to text before b n.links))
      + count (λ k. same_new_node k.from k.to) (keys_at (names_at text before b n g (first_of m.first) m.segs) g.steps work g.added r.added))
  pub rows : EachRow (KeyRow m.steps) 1 work g.added r.added
  pub few : r.added ≤ m.steps
  pub long : length work ≡ length before
  pub only : Only (span g.added (ends_end g n.links) ∷ []) before work
