-- The counters of a node: what a run adds, and what they are once some paths are counted.
use Rattle.std.specs.Prelude.{ℕ, ◌+◌, ◌-◌, ◌≤◌, ◌<◌, Bool, false, cond, ◌&&◌, List, [], ◌∷◌, map, ◌≡◌, eqb, leb, ltb, length}
use Rattle.std.specs.Prelude.{Option, Some, None, option_map}
use Rattle.gfa_spec.specs.Options.{map_or}
use Rattle.gfa_spec.specs.Bytes.{any, count, join, is_empty}
use Rattle.gfa_spec.specs.Reading.{Path}
use Rattle.gfa_spec.specs.Runs.{Run, pairs, bit, same_step}
use Rattle.gfa_spec.specs.Services.{nth_path}
use Rattle.report_spec.specs.Nodes.{on, visits as visits_of, repeats_at, longest as longest_of, path_name, first_with, total}
use Rattle.work.specs.Rows.{word_of}
use Rattle.tables.specs.declared.entry.PathNo.{PathNo}
use Rattle.nodes.specs.declared.counters.Counter.{Counter}

-- a path's number, as the program's type has it
abbrev pub path_found : Option ℕ → Option PathNo
path_found o = option_map (λ k. record { 0 = k }) o

-- the word for a path that may be missing
abbrev pub path_word : Option PathNo → ℕ
path_word o = word_of (option_map (λ p. p.0) o)

-- is it the path of this number?
abbrev pub is_path : Option PathNo → ℕ → Bool
is_path None path = false
is_path (Some p) path = eqb p.0 path

-- it is one of the first n paths, where there is one
abbrev pub PathBelow : ℕ → Option PathNo → Type 0
PathBelow n None = Unit {0}
PathBelow n (Some p) = p.0 < n

-- no path is counted yet
abbrev pub no_counter : Counter
no_counter = record { visits = 0; paths = 0; last = None; adjacent = 0; equal = 0; runs = 0; longest = 0; first = None }

-- is it a longer run of two or more?
unfoldable pub is_longer : Counter → ℕ → Bool
is_longer c times = leb 2 times && ltb c.longest times

-- with a run of so many steps on the node, on the path of this number; `more`: the step behind the run is on the node too
abbrev pub counted_of : Counter → ℕ → ℕ → Bool → Counter
counted_of c times path more =
    record {
      visits = c.visits + times;
      paths = cond (is_path c.last path) c.paths (c.paths + 1);
      last = Some (record { 0 = path });
      adjacent = c.adjacent + (times - 1 + bit more);
      equal = c.equal + (times - 1);
      runs = c.runs + bit (leb 2 times);
      longest = cond (is_longer c times) times c.longest;
      first = cond (is_longer c times) (Some (record { 0 = path })) c.first;
    }

-- the words of the counters
abbrev pub counter_words : Counter → List ℕ
counter_words c = c.visits ∷ c.paths ∷ path_word c.last ∷ c.adjacent ∷ c.equal ∷ c.runs ∷ c.longest ∷ path_word c.first ∷ []

-- The counters are no larger than they may be while so many steps of a path of this number are left.
pub record CounterFits (left path : ℕ) (c : Counter) : Type 0 where
  pub visits : c.visits + left ≤ 2097152
  pub paths : c.paths ≤ c.visits
  pub adjacent : c.adjacent ≤ c.visits
  pub equal : c.equal ≤ c.visits
  pub runs : c.runs ≤ c.visits
  pub longest : c.longest ≤ c.visits
  pub first : PathBelow (path + 1) c.first

-- the first run is on the node
unfoldable pub goes_on : List ℕ → List Run → Bool
goes_on node [] = false
goes_on node (r ∷ rs) = on node r.step

-- with the runs of a path of this number, one behind the other
unfoldable pub finish : List ℕ → ℕ → Counter → List Run → Counter
finish node path c [] = c
finish node path c (r ∷ rs) = finish node path (cond (on node r.step) (counted_of c r.count path (goes_on node rs)) c) rs

-- the name of a path, none where there is none
unfoldable pub named : Option PathNo → List Path → List ℕ
named None ps = []
named (Some k) ps = map_or (nth_path k.0 ps) [] path_name

-- The counters of a node once these paths are counted.
pub record CounterOf (node : List ℕ) (ps : List Path) (c : Counter) : Type 0 where
  pub visits : c.visits ≡ total (visits_of node) ps
  pub paths : c.paths ≡ count (λ p. any (on node) p.steps) ps
  pub last : PathBelow (length ps) c.last
  pub adjacent : c.adjacent ≡ total (λ p. pairs (λ s t. on node s && on node t) p.steps) ps
  pub equal : c.equal ≡ total (λ p. pairs (λ s t. on node s && same_step s t) p.steps) ps
  pub runs : c.runs ≡ length (join (map (repeats_at node) ps))
  pub longest : c.longest ≡ longest_of (join (map (repeats_at node) ps))
  pub first : named c.first ps ≡ cond (is_empty (join (map (repeats_at node) ps))) [] (first_with (longest_of (join (map (repeats_at node) ps))) node ps)
  pub known : PathBelow (length ps) c.first
