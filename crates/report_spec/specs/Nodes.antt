-- The nodes of a report, and what is reported of each. Document 01, "The report's lines".
use Rattle.std.specs.Prelude.{ℕ, max, Bool, cond, ◌&&◌, List, [], ◌∷◌, map, eqb, length}
use Rattle.std.specs.Prelude.{unwrap_or}
use Rattle.gfa_spec.specs.Bytes.{bytes, same, any, keep, count, sum, join, is_empty, nth}
use Rattle.gfa_spec.specs.Decimal.{largest64}
use Rattle.gfa_spec.specs.Reading.{Step, Segment, Link, Path, P, W, Entry}
use Rattle.gfa_spec.specs.Records.{segments, links, paths, sequence_or_empty, segment_number, is_self_link}
use Rattle.gfa_spec.specs.Runs.{Run, runs, is_repeat, pairs, same_step}
use Rattle.gfa_spec.specs.Sequences.{sequence_len, sequence_preview}

-- ---- nodes with a self-link

-- the names, each once, in order, but for those seen
unfoldable pub each_once : List (List ℕ) → List (List ℕ) → List (List ℕ)
each_once seen [] = []
each_once seen (n ∷ ns) = cond (any (same n) seen) (each_once seen ns) (n ∷ each_once (n ∷ seen) ns)

-- the nodes with a self-link, in the order of their first self-links
unfoldable pub nodes : List Entry → List (List ℕ)
nodes es = each_once [] (map (λ l. l.from) (keep is_self_link (links es)))

-- the self-links of a node
unfoldable pub links_on : List Entry → List ℕ → List Link
links_on es node = keep (λ l. same l.from node && same l.to node) (links es)

-- the number of the segment so named; an unknown node has 18446744073709551615
unfoldable pub order_of : List Segment → List ℕ → ℕ
order_of ss node = unwrap_or (segment_number ss node) largest64

-- the orientation pairs that some self-link has, sorted, without repeats
unfoldable pub orientations : List Link → List (List ℕ)
orientations ls = keep (λ o. any (λ l. same o (l.from_orientation ∷ l.to_orientation ∷ [])) ls) (bytes "++" ∷ bytes "+-" ∷ bytes "-+" ∷ bytes "--" ∷ [])

-- ---- paths

-- a step is on the node
unfoldable pub on : List ℕ → Step → Bool
on node s = same s.name.bytes node

-- how often a path visits the node
unfoldable pub visits : List ℕ → Path → ℕ
visits node p = count (on node) p.steps

-- the maximal runs of two or more of a path
unfoldable pub repeats : Path → List Run
repeats p = keep is_repeat (runs p.steps)

-- those on the node
unfoldable pub repeats_at : List ℕ → Path → List Run
repeats_at node p = keep (λ r. on node r.step) (repeats p)

-- the length of the longest run, 0 where there is none
unfoldable pub longest : List Run → ℕ
longest [] = 0
longest (r ∷ rs) = max r.count (longest rs)

-- a path's name: the second field of a P line, the fourth of a W line
unfoldable pub path_name : Path → List ℕ
path_name p = elim p.kind as (λ _. List ℕ) [ P ↦ nth 1 p.fields [] | W ↦ nth 3 p.fields [] ]

-- the name of the first path that has a run of that length on the node
unfoldable pub first_with : ℕ → List ℕ → List Path → List ℕ
first_with n node [] = []
first_with n node (p ∷ ps) = cond (any (λ r. eqb r.count n) (repeats_at node p)) (path_name p) (first_with n node ps)

-- ---- a node's report

-- What is reported of a node, in the order of its thirteen lines.
pub record Node : Type 0 where
  pub name : List ℕ
  pub order : ℕ
  pub sequence_len : ℕ
  pub preview : List ℕ
  pub links : ℕ
  pub orientations : List (List ℕ)
  pub visits : ℕ
  pub paths : ℕ
  pub same_node : ℕ
  pub same_step : ℕ
  pub runs : ℕ
  pub longest : ℕ
  pub longest_path : List ℕ

-- a count, summed over paths
unfoldable pub total : (Path → ℕ) → List Path → ℕ
total f ps = sum (map f ps)

-- the report of a node
unfoldable pub node_of : List Entry → List ℕ → Node
node_of es node =
    let ps = paths es in
    let seq = sequence_or_empty (segments es) node in
    let rs = join (map (repeats_at node) ps) in
    record {
      name = node;
      order = order_of (segments es) node;
      sequence_len = sequence_len seq;
      preview = sequence_preview seq;
      links = length (links_on es node);
      orientations = orientations (links_on es node);
      visits = total (visits node) ps;
      paths = count (λ p. any (on node) p.steps) ps;
      same_node = total (λ p. pairs (λ s t. on node s && on node t) p.steps) ps;
      same_step = total (λ p. pairs (λ s t. on node s && same_step s t) p.steps) ps;
      runs = length rs;
      longest = longest rs;
      longest_path = cond (is_empty rs) [] (first_with (longest rs) node ps);
    }
