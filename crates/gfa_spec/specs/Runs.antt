-- Runs of equal steps, pairs of adjacent steps, and their counts. Document 01, "Folding", rule 2 and the counters.
use Rattle.std.specs.Prelude.{ℕ, suc, ◌+◌, Bool, true, false, cond, ◌&&◌, List, [], ◌∷◌, map, eqb, leb, length}
use Rattle.gfa_spec.specs.Bytes.{same, sum}
use Rattle.gfa_spec.specs.Reading.{Step, Entry}
use Rattle.gfa_spec.specs.Records.{paths}

-- ---- equal steps

-- two steps on one node: equal names
unfoldable pub same_node : Step → Step → Bool
same_node s t = same s.name.bytes t.name.bytes

-- equal steps: name and orientation both count (rule 2)
unfoldable pub same_step : Step → Step → Bool
same_step s t = same_node s t && eqb s.orientation t.orientation

-- ---- maximal runs

-- A run: its first step, and how many equal steps it has.
pub record Run : Type 0 where
  pub step : Step
  pub count : ℕ

-- a step before runs: it makes the first run longer, or a run of its own
unfoldable pub extend : Step → List Run → List Run
extend s [] = record { step = s; count = 1 } ∷ []
extend s (r ∷ rs) =
    cond (same_step s r.step)
    (record { step = s; count = suc r.count } ∷ rs)
    (record { step = s; count = 1 } ∷ (r ∷ rs))

-- the maximal runs of a step list, in order: no equal step is next to one (rule 2)
unfoldable pub runs : List Step → List Run
runs [] = []
runs (s ∷ steps) = extend s (runs steps)

-- a run of two or more
unfoldable pub is_repeat : Run → Bool
is_repeat r = leb 2 r.count

-- ---- pairs

-- 1 where a test passes, else 0
unfoldable pub bit : Bool → ℕ
bit true = 1
bit false = 0

-- the places where a step and the next pass a test: with `same_node` the adjacent pairs on one node,
-- with `same_step` the adjacent equal steps
unfoldable pub pairs : {A : Type 0} → (A → A → Bool) → List A → ℕ
pairs p [] = 0
pairs p (s ∷ []) = 0
pairs p (s ∷ (t ∷ ts)) = bit (p s t) + pairs p (t ∷ ts)

-- ---- counts of a text

-- a count of steps, summed over the paths
unfoldable pub over_paths : (List Step → ℕ) → List Entry → ℕ
over_paths f es = sum (map (λ p. f p.steps) (paths es))

-- adjacent pairs on one node, of all paths
unfoldable pub same_node_pairs : List Entry → ℕ
same_node_pairs es = over_paths (pairs same_node) es

-- adjacent equal steps, of all paths
unfoldable pub same_step_pairs : List Entry → ℕ
same_step_pairs es = over_paths (pairs same_step) es

-- steps of all paths
unfoldable pub step_count : List Entry → ℕ
step_count es = over_paths length es
