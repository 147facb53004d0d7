-- Which segments are folded, and what the paths become. Document 01, "Folding", rules 1, 2, 4 and 5.
-- `ss` are the segments of the text, `fs` the folded ones.
use Rattle.std.specs.Prelude.{ℕ, zero, suc, max, Bool, true, false, cond, not, ◌&&◌, ◌||◌, List, [], ◌∷◌, ◌++◌, map, eqb, leb, ltb, length}
use Rattle.std.specs.Prelude.{Option, None, Some}
use Rattle.gfa_spec.specs.Bytes.{bytes, same, star, is_empty, any, keep, copies, repeat}
use Rattle.gfa_spec.specs.Decimal.{decimal, is_digit, largest64, number_of}
use Rattle.gfa_spec.specs.Reading.{Step, Segment, Link, Path, Entry}
use Rattle.gfa_spec.specs.Records.{segments, links, paths, sequence_or_empty}
use Rattle.gfa_spec.specs.Runs.{Run, runs, is_repeat}

-- ---- rule 1: eligible

-- a link from the segment so named to itself, any orientations
unfoldable pub self_linked : List Link → List ℕ → Bool
self_linked ls name = any (λ l. same l.from name && same l.to name) ls

-- a length within the cap: cap 0 is no cap
unfoldable pub within : ℕ → ℕ → Bool
within cap n = eqb cap 0 || leb n cap

-- a sequence that may be folded: not `*`, of length at least 1, and at most the cap
unfoldable pub is_unit : ℕ → List ℕ → Bool
is_unit cap seq = not (same seq star) && not (is_empty seq) && within cap (length seq)

-- eligible: rule 1 of a segment
unfoldable pub eligible : List Entry → ℕ → Segment → Bool
eligible es cap s = self_linked (links es) s.id && is_unit cap s.sequence

-- ---- rule 2: folded (targeted)

-- a path has a maximal run of two or more equal steps on the node so named
unfoldable pub repeats_on : List ℕ → Path → Bool
repeats_on name p = any (λ r. is_repeat r && same r.step.name.bytes name) (runs p.steps)

-- folded, or targeted: eligible, and some path of the input has such a run on it
unfoldable pub is_folded : List Entry → ℕ → Segment → Bool
is_folded es cap s = eligible es cap s && any (repeats_on s.id) (paths es)

-- the folded segments of a text under a cap, in text order
unfoldable pub folded : List Entry → ℕ → List Segment
folded es cap = keep (is_folded es cap) (segments es)

-- a maximal run of two or more equal steps on a folded segment: what rule 4 turns into one step
unfoldable pub is_folded_run : List Segment → Run → Bool
is_folded_run fs r = is_repeat r && any (λ s. same s.id r.step.name.bytes) fs

-- ---- rule 5: new IDs

-- the largest of n and the IDs, where every ID reads as a decimal number
unfoldable pub largest_id : ℕ → List Segment → Option ℕ
largest_id n [] = Some n
largest_id n (s ∷ ss) = elim (number_of s.id) as (λ _. Option ℕ) [ None ↦ None | Some m ↦ largest_id (max n m) ss ]

-- a number is used while it is below 18446744073709551615
unfoldable pub usable : Option ℕ → Option ℕ
usable None = None
usable (Some n) = cond (ltb n largest64) (Some n) None

-- A-Z a-z 0-9 `_` (95) `.` (46) `:` (58) `#` (35)
unfoldable pub is_plain : ℕ → Bool
is_plain b = (leb 65 b && leb b 90) || (leb 97 b && leb b 122) || is_digit b || eqb b 95 || eqb b 46 || eqb b 58 || eqb b 35

-- the name with every other byte made `_`
unfoldable pub sanitized : List ℕ → List ℕ
sanitized name = map (λ b. cond (is_plain b) b 95) name

-- then `_selfloop_run` and the run length
unfoldable pub base_name : List ℕ → ℕ → List ℕ
base_name name count = sanitized name ++ (bytes "_selfloop_run" ++ decimal count)

-- the first of base_k, base_(k+1), … that is not taken; `fuel` of them are tried
unfoldable pub suffixed : ℕ → List (List ℕ) → List ℕ → ℕ → List ℕ
suffixed zero taken base k = base
suffixed (suc fuel) taken base k =
    let name = base ++ (95 ∷ decimal k) in
    elim (any (same name) taken) [ true ↦ suffixed fuel taken base (suc k) | false ↦ name ]

-- the base; if taken, `_1`, `_2` and so on after it: one of as many as there are names, and one more, is free
unfoldable pub free_name : List (List ℕ) → List ℕ → List ℕ
free_name taken base = cond (any (same base) taken) (suffixed (suc (length taken)) taken base 1) base

-- the new ID of a unit and a run length: the next number where one may be used, else a name
unfoldable pub new_id : List (List ℕ) → List ℕ → ℕ → Option ℕ → List ℕ
new_id taken name count None = free_name taken (base_name name count)
new_id taken name count (Some n) = decimal n

-- ---- rule 4: new segments, and paths over them

-- A new segment: its unit's name, the run length, its ID and its sequence.
pub record New : Type 0 where
  pub unit : List ℕ
  pub count : ℕ
  pub id : List ℕ
  pub sequence : List ℕ

-- The new segments made so far, and the next number, if every ID reads as a number.
pub record Made : Type 0 where
  pub new : List New
  pub next : Option ℕ

-- the ID of the segment that was made for a unit and a run length
unfoldable pub made_for : List ℕ → ℕ → List New → Option (List ℕ)
made_for unit count [] = None
made_for unit count (n ∷ ns) = cond (same n.unit unit && eqb n.count count) (Some n.id) (made_for unit count ns)

-- the IDs that are taken: those of the text, and of the new segments
unfoldable pub taken : List Segment → List New → List (List ℕ)
taken ss new = map (λ s. s.id) ss ++ map (λ n. n.id) new

-- the new segment of a run: its ID by rule 5, its sequence the unit repeated
unfoldable pub new_segment : List Segment → Run → Made → New
new_segment ss r made =
    let name = r.step.name.bytes in
    record {
      unit = name;
      count = r.count;
      id = new_id (taken ss made.new) name r.count (usable made.next);
      sequence = repeat r.count (sequence_or_empty ss name);
    }

-- counting up
unfoldable pub next_after : Option ℕ → Option ℕ
next_after None = None
next_after (Some n) = Some (suc n)

-- a new segment more, behind the others
unfoldable pub make_segment : List Segment → Run → Made → Made
make_segment ss r made = record { new = made.new ++ (new_segment ss r made ∷ []); next = next_after (usable made.next) }

-- A step of a new path: it has a name but no place in the text.
pub record NewStep : Type 0 where
  pub name : List ℕ
  pub orientation : ℕ

-- two steps on one node
unfoldable pub same_new_node : NewStep → NewStep → Bool
same_new_node s t = same s.name t.name

-- equal steps
unfoldable pub same_new_step : NewStep → NewStep → Bool
same_new_step s t = same_new_node s t && eqb s.orientation t.orientation

-- a step that is kept
unfoldable pub as_new : Step → NewStep
as_new s = record { name = s.name.bytes; orientation = s.orientation }

-- What a path has become, and the segments made up to there.
pub record Transformed : Type 0 where
  pub made : Made
  pub steps : List NewStep

-- one step of the run's orientation, on the segment of this ID
unfoldable pub onto : Run → List ℕ → Made → Transformed
onto r id made = record { made = made; steps = record { name = id; orientation = r.step.orientation } ∷ [] }

-- a folded run becomes one step on the new segment for its pair of segment and run length, made at first use
unfoldable pub fold_run : List Segment → Run → Made → Transformed
fold_run ss r made =
    elim (made_for r.step.name.bytes r.count made.new) as (λ _. Transformed) [
      | Some id ↦ onto r id made
      | None ↦ onto r (new_segment ss r made).id (make_segment ss r made)
    ]

-- any other run keeps its steps
unfoldable pub keep_run : Run → Made → Transformed
keep_run r made = record { made = made; steps = copies r.count (as_new r.step) }

-- what a run becomes
unfoldable pub turn : List Segment → List Segment → Run → Made → Transformed
turn ss fs r made = cond (is_folded_run fs r) (fold_run ss r made) (keep_run r made)

-- what the runs of a path become, from left to right
unfoldable pub transform_runs : List Segment → List Segment → List Run → Made → Transformed
transform_runs ss fs [] made = record { made = made; steps = [] }
transform_runs ss fs (r ∷ rs) made =
    let here = turn ss fs r made in
    let more = transform_runs ss fs rs here.made in
    record { made = more.made; steps = here.steps ++ more.steps }

-- All new paths, in path order, and all new segments.
pub record AllTransformed : Type 0 where
  pub made : Made
  pub paths : List (List NewStep)

-- what the paths become, in path order
unfoldable pub transform_paths : List Segment → List Segment → List Path → Made → AllTransformed
transform_paths ss fs [] made = record { made = made; paths = [] }
transform_paths ss fs (p ∷ ps) made =
    let here = transform_runs ss fs (runs p.steps) made in
    let more = transform_paths ss fs ps here.made in
    record { made = more.made; paths = here.steps ∷ more.paths }

-- before the first path: no new segment, and as next number the largest ID plus one, if every ID reads as a number
unfoldable pub none_made : List Segment → Made
none_made ss = record { new = []; next = next_after (usable (largest_id 0 ss)) }

-- all new paths and new segments of a text under a cap
unfoldable pub transform : List Entry → ℕ → AllTransformed
transform es cap = transform_paths (segments es) (folded es cap) (paths es) (none_made (segments es))
