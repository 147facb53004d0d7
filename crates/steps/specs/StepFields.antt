-- What the reader does with the steps of a path. Document 01, "Reading", and the refusals 13 and 15 to 17.
use Rattle.std.specs.Prelude.{Result, Ok, Err}
use Rattle.refusals.specs.declared.reason.Reason.{Reason}
use Rattle.refusals.specs.Reasons.{number_of}
use Rattle.std.specs.Prelude.{ℕ, ◌+◌, ◌*◌, ◌-◌, ◌≤◌, ◌<◌, true, cond, List, [], ◌∷◌, ◌++◌, ◌≡◌, length, get_or}
use Rattle.gfa_spec.specs.Bytes.{Part, part, is_empty}
use Rattle.gfa_spec.specs.Reading.{Step, Read, refused, accepted, then, step_of, parse_items, is_mark, walk}
use Rattle.scan.specs.declared.places.Place.{Place}
use Rattle.scan.specs.Places.{part_at}
use Rattle.work.specs.Rows.{EachRow, span, Only}
use Rattle.tables.specs.Steps.{StepRow, steps_at}

-- ---- the steps of a field

-- The steps that are read stand in the table at `base`, at most one for every two bytes of the field; only their rows changed.
pub record StepsPut (text work work' : List ℕ) (base size m : ℕ) (r : Read (List Step)) : Type 0 where
  pub read : r ≡ accepted (steps_at text work' base m)
  pub few : 2 * m ≤ size
  pub rows : EachRow (StepRow text) 3 work' base m
  pub long : length work' ≡ length work
  pub only : Only (span base (base + 3 * m) ∷ []) work work'

-- The steps are refused with this number; only rows of the table changed that the field has room for.
pub record StepsRefused (work work' : List ℕ) (base size : ℕ) (r : Read (List Step)) (k : ℕ) : Type 0 where
  pub read : r ≡ refused k
  pub long : length work' ≡ length work
  pub only : Only (span base (base + 3 * size) ∷ []) work work'

-- by the cases of the answer
abbrev pub StepsSay : List ℕ → List ℕ → List ℕ → ℕ → ℕ → Read (List Step) → Result ℕ Reason → Type 0
StepsSay text work work' base size r (Ok m) = StepsPut text work work' base size m r
StepsSay text work work' base size r (Err k) = StepsRefused work work' base size r (number_of k)

-- What the answer to a field of steps says; r is what the definitions read there.
pub record StepsIs (text work work' : List ℕ) (base size : ℕ) (r : Read (List Step)) (c : Result ℕ Reason) : Type 0 where
  pub says : StepsSay text work work' base size r c

-- ---- the items of a P line

-- steps put before those that are read
unfoldable pub add_steps : List Step → Read (List Step) → Read (List Step)
add_steps xs r = then r (λ ys. accepted (xs ++ ys))

-- the steps of an item: none where it is empty
unfoldable pub item_steps : Part → List Step
item_steps item = cond (is_empty item.bytes) [] (step_of item ∷ [])

-- The item is refused, whatever follows it, and nothing changed.
pub record ItemBad (text work work' : List ℕ) (start size k : ℕ) : Type 0 where
  pub read : (more : List Part) → parse_items (part_at text start size ∷ more) ≡ refused k
  pub same : work' ≡ work

-- The item is read, and the table has m steps with it, at most one more for every two bytes; only their rows changed.
pub record ItemRead (text work work' : List ℕ) (base n start size m : ℕ) : Type 0 where
  pub read : (more : List Part) → parse_items (part_at text start size ∷ more) ≡ add_steps (item_steps (part_at text start size)) (parse_items more)
  pub table : steps_at text work' base m ≡ steps_at text work base n ++ item_steps (part_at text start size)
  pub rows : EachRow (StepRow text) 3 work base n → EachRow (StepRow text) 3 work' base m
  pub low : n ≤ m
  pub high : 2 * m ≤ 2 * n + size
  pub one : m ≤ n + 1
  pub long : length work' ≡ length work
  pub only : Only (span (base + 3 * n) (base + 3 * m) ∷ []) work work'

-- by the cases of the answer
abbrev pub ItemSays : List ℕ → List ℕ → List ℕ → ℕ → ℕ → ℕ → ℕ → Result ℕ Reason → Type 0
ItemSays text work work' base n start size (Ok m) = ItemRead text work work' base n start size m
ItemSays text work work' base n start size (Err k) = ItemBad text work work' start size (number_of k)

-- What the answer to an item says.
pub record ItemIs (text work work' : List ℕ) (base n : ℕ) (item : Place) (r : Result ℕ Reason) : Type 0 where
  pub says : ItemSays text work work' base n item.start item.size r

-- ---- the marks of a W line

-- The first mark from `from` up to `to`, or `to`: the walk from `from` on goes on there.
pub record MarkIs (text : List ℕ) (from to r : ℕ) : Type 0 where
  pub before : (walk from (part from (to - from) text)).before ≡ part from (r - from) text
  pub steps : (walk from (part from (to - from) text)).steps ≡ (walk r (part r (to - r) text)).steps
  pub mark : r < to → is_mark (get_or text r 0) ≡ true
  pub low : from ≤ r
  pub high : r ≤ to
