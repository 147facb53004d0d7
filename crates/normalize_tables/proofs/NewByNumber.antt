-- The words of a row of the normalizer's tables, by its number. Assumes nothing.
use Prim.Native.Nat.{ℕ, zero, suc, ◌+◌, ◌*◌, ◌-◌, ◌≤◌, ◌<◌}
use native.Mathlib.Omega.{arith}
use native.Mathlib.Numerals.{add-one}
use mathlib.Core.List.{List, [], ◌∷◌, ◌++◌}
use mathlib.Core.Logic.{◌⊎◌, inl, inr}
use mathlib.Core.Path.{◌≡◌, refl, ap}
use lib.ListN.{length, get_or}
use denote.Enum.Bare.{sameb}
use lib.Dec.{eqb}
use mathlib.Core.Bool.{◌&&◌}
use Rattle.scan.specs.contracts.orientation.Orientation.{the_type}
use Rattle.scan.proofs.Orientations.{eq_signs}
use Rattle.scan.specs.declared.orientation.Orientation.{Orientation}
use Rattle.scan.specs.Orientations.{sign_of}
use Rattle.work.specs.Rows.{rows_at, span, Only}
use Rattle.work.proofs.Rows.{KeptWords, only_then, only_kept, kept_within, outside_less, rows_snoc, rows_length}
use Rattle.work.proofs.RowCuts.{rows_split, rows_all, rows_cons, rows_none}
use Rattle.tables.specs.declared.tables.Bases.{Bases}
use Rattle.tables.specs.declared.tables.Counts.{Counts}
use Rattle.normalize_tables.specs.declared.layout.Layout.{Layout}
use Rattle.normalize_tables.specs.declared.layout.Made.{Made}
use Rattle.normalize_tables.specs.declared.rows.NewStepWords.{NewStepWords}
use Rattle.normalize_tables.specs.Layout.{Placed}
use Rattle.normalize_tables.specs.News.{segment_words, step_words, path_words, new_step_at, new_steps_at, new_path_at, new_paths_at}
use Rattle.normalize_tables.specs.NewByNumber.{new_step_no, new_steps_from, new_path_no, new_paths_to, new_paths_from, ends_no, StepRows, NewStepIs, step_is, step_span, path_span, ends_end, ends_span, KeptTo, SegmentsKept, StepsKept, PathsKept}

-- ---- what a row says

module _ {work : List ℕ} {n : Counts} {g : Layout} {m : Made} where
  pub step_told : {node : ℕ} {mark : Orientation} (k : ℕ) → StepRows work n g m → k < m.steps → node ≡ get_or work (g.steps + 2 * k) 0
      → sign_of mark ≡ get_or work (g.steps + 2 * k + 1) 0
      → NewStepIs work n g m k (record { node = node; mark = mark })
  unfolding new_step_at
  step_told k t h en em = let q = t.row k h in rw en (record { words = rw em; step = λ names. rw em; node = q.node })

-- new steps are equal where their words are
pub eq_steps : (s t : NewStepWords) → (eqb s.node t.node && sameb the_type s.mark t.mark) ≡ step_is s t
eq_steps s t = rw (eq_signs s.mark t.mark)

-- ---- rows that are put

-- the ends of one link more
pub ends_joined : {w v u : List ℕ} (g : Layout) (i : ℕ) → Only (ends_span g 0 i ∷ []) w v → Only (ends_span g i (i + 1) ∷ []) v u → Only (ends_span g 0 (i + 1) ∷ []) w u
ends_joined g i old new =
    only_then (ends_span g 0 (i + 1) ∷ []) old new
    (λ j o.
    let before = outside_less (ends_end g 0) (ends_end g i) o.0 (omega arith) (omega arith) in
    let here = outside_less (ends_end g i) (ends_end g (i + 1)) o.0 (omega arith) (omega arith) in
    ((before, tt), (here, tt)))

-- the ends of a link, where the words that changed are behind its row or before the table
pub ends_stand : {w w' : List ℕ} {from to : ℕ} (g : Layout) (j : ℕ) → Only (span from to ∷ []) w w' → (g.ends + 3 * (j + 1) ≤ from) ⊎ (to ≤ g.ends) → ends_no w' g j ≡ ends_no w g j
ends_stand {w} {w'} {from} {to} g j o h =
    let k : KeptWords (g.ends + 3 * j) (g.ends + 3 * j + 3) w w' = only_kept (g.ends + 3 * j) (g.ends + 3 * j + 3) o (apart h, tt) in
    rw (k.word (g.ends + 3 * j) (omega arith) (omega arith), k.word (g.ends + 3 * j + 1) (omega arith) (omega arith), k.word (g.ends + 3 * j + 2) (omega arith) (omega arith))
  where
    apart : (g.ends + 3 * (j + 1) ≤ from) ⊎ (to ≤ g.ends) → (g.ends + 3 * j + 3 ≤ from) ⊎ (to ≤ g.ends + 3 * j)
    apart (inl l) = inl (omega arith)
    apart (inr l) = inr (omega arith)

-- ---- rows that are kept

-- by their words
pub segment_kept : {w w' : List ℕ} (g : Layout) (j : ℕ) → KeptWords (g.segs + 4 * j) (g.segs + 4 * j + 3) w w' → segment_words w' g j ≡ segment_words w g j
segment_kept g j k =
    let at = g.segs + 4 * j in rw (k.word at (omega arith) (omega arith), k.word (at + 1) (omega arith) (omega arith), k.word (at + 2) (omega arith) (omega arith))

pub segments_words : {w w' : List ℕ} (g : Layout) (q : ℕ) → KeptWords g.segs (g.segs + 4 * q) w w' → SegmentsKept g q w w'
segments_words g q k =
    record {
      row = λ j h. segment_kept g j (kept_within (g.segs + 4 * j) (g.segs + 4 * j + 3) k (omega arith) (omega arith));
      next = λ j h. k.word (g.segs + 3 + 4 * j) (omega arith) (omega arith);
    }

pub steps_words : {w w' : List ℕ} (g : Layout) (t : ℕ) → KeptWords g.steps (g.steps + 2 * t) w w' → StepsKept g t w w'
steps_words g t k =
    record { row = λ i h. let at = g.steps + 2 * i in rw (k.word at (omega arith) (omega arith), k.word (at + 1) (omega arith) (omega arith)) }

pub paths_words : {w w' : List ℕ} (g : Layout) (p : ℕ) → KeptWords g.paths (g.paths + 2 * p) w w' → PathsKept g p w w'
paths_words g p k =
    record { row = λ i h. let at = g.paths + 2 * i in rw (k.word at (omega arith) (omega arith), k.word (at + 1) (omega arith) (omega arith)) }

-- word by word
module _ {w w' : List ℕ} (g : Layout) {q : ℕ} (k : SegmentsKept g q w w') (j : ℕ) (h : j < q) where
  pub unit_kept : (segment_words w' g j).unit.0 ≡ (segment_words w g j).unit.0
  unit_kept = ap (λ x. x.unit.0) (k.row j h)

  pub count_kept : (segment_words w' g j).count ≡ (segment_words w g j).count
  count_kept = ap (λ x. x.count) (k.row j h)

  pub suffix_kept : (segment_words w' g j).suffix ≡ (segment_words w g j).suffix
  suffix_kept = ap (λ x. x.suffix) (k.row j h)

module _ {w w' : List ℕ} (g : Layout) {t : ℕ} (k : StepsKept g t w w') (i : ℕ) (h : i < t) where
  pub node_kept : (step_words w' g i).node ≡ (step_words w g i).node
  node_kept = ap (λ x. x.node) (k.row i h)

  pub mark_kept : (step_words w' g i).mark ≡ (step_words w g i).mark
  mark_kept = ap (λ x. x.mark) (k.row i h)

module _ {w w' : List ℕ} (g : Layout) {t : ℕ} (k : PathsKept g t w w') (p : ℕ) (h : p < t) where
  pub first_kept : (path_words w' g p).first ≡ (path_words w g p).first
  first_kept = ap (λ x. x.first) (k.row p h)

  pub end_kept : (path_words w' g p).end ≡ (path_words w g p).end
  end_kept = ap (λ x. x.end) (k.row p h)

-- what is kept where only rows of one table change
pub steps_put_steps : {w w' : List ℕ} (g : Layout) (k end : ℕ) → Only (step_span g k end ∷ []) w w' → StepsKept g k w w'
steps_put_steps g k end o = steps_words g k (only_kept g.steps (g.steps + 2 * k) o (inl (omega arith), tt))

module _ {b : Bases} {n : Counts} {g : Layout} {size : ℕ} (p : Placed b n g size) {w w' : List ℕ} (k end : ℕ) where
  module _ (o : Only (step_span g k end ∷ []) w w') where
    pub steps_put_low : KeptTo g.paths w w'
    steps_put_low = record { word = λ i h. o.word i (inl (omega arith), tt) }

    pub steps_put_paths : PathsKept g n.paths w w'
    steps_put_paths = paths_words g n.paths (only_kept g.paths (g.paths + 2 * n.paths) o (inl (omega arith), tt))

    pub steps_put_segments : (q : ℕ) → 2 * q ≤ n.steps → SegmentsKept g q w w'
    steps_put_segments q h = segments_words g q (only_kept g.segs (g.segs + 4 * q) o (inl (omega arith), tt))

    pub steps_put_behind : end ≤ n.steps → (i : ℕ) → g.added ≤ i → get_or w' i 0 ≡ get_or w i 0
    steps_put_behind h i l = o.word i (inr (omega arith), tt)

  module _ (o : Only (path_span g k end ∷ []) w w') (h : end ≤ n.paths) where
    pub paths_put_low : KeptTo g.paths w w'
    paths_put_low = record { word = λ i l. o.word i (inl (omega arith), tt) }

    pub paths_put_paths : PathsKept g k w w'
    paths_put_paths = paths_words g k (only_kept g.paths (g.paths + 2 * k) o (inl (omega arith), tt))

    pub paths_put_segments : (q : ℕ) → SegmentsKept g q w w'
    paths_put_segments q = segments_words g q (only_kept g.segs (g.segs + 4 * q) o (inr (omega arith), tt))

    pub paths_put_steps : (t : ℕ) → StepsKept g t w w'
    paths_put_steps t = steps_words g t (only_kept g.steps (g.steps + 2 * t) o (inr (omega arith), tt))

    pub paths_put_behind : (i : ℕ) → g.added ≤ i → get_or w' i 0 ≡ get_or w i 0
    paths_put_behind i l = o.word i (inr (omega arith), tt)

-- ---- the tables, row by row

module _ (names : List (List ℕ)) (work : List ℕ) (g : Layout) where
  -- one new path more
  pub new_paths_more : (p : ℕ) → new_paths_to names work g (p + 1) ≡ new_paths_to names work g p ++ (new_path_no names work g p ∷ [])
  unfolding new_paths_at
  new_paths_more p = rw (add-one, rows_snoc)

  -- the new steps from k on are k and the next; behind the last there is none
  pub new_steps_next : (k end : ℕ) → k < end → new_steps_from names work g k end ≡ new_step_no names work g k ∷ new_steps_from names work g (k + 1) end
  unfolding new_steps_at
  new_steps_next k end h = rows_cons (new_step_at names) 2 work g.steps end k h

  pub new_steps_none : (k end : ℕ) → end ≤ k → new_steps_from names work g k end ≡ []
  unfolding new_steps_at
  new_steps_none k end h = rows_none (new_step_at names) 2 work g.steps end k h

  -- those up to a step, and those from it on
  pub new_steps_split : (k mid end : ℕ) → k ≤ mid → mid ≤ end → new_steps_from names work g k end ≡ new_steps_from names work g k mid ++ new_steps_from names work g mid end
  unfolding new_steps_at
  new_steps_split k mid end l h =
      let all : end - k ≡ mid - k + (end - mid) = omega arith in
      let place : g.steps + 2 * k + 2 * (mid - k) ≡ g.steps + 2 * mid = omega arith in
      rw (all, rows_split (new_step_at names) 2 work (g.steps + 2 * k) (mid - k) (end - mid), place)

  pub new_steps_length : (k end : ℕ) → length (new_steps_from names work g k end) ≡ end - k
  unfolding new_steps_at
  new_steps_length k end = rows_length (new_step_at names) 2 work (g.steps + 2 * k) (end - k)

  module _ (n : Counts) where
    -- the new paths from path 0 on are all; those from p on are p and the next; behind the last there is none
    pub new_paths_all : new_paths_to names work g n.paths ≡ new_paths_from names work n g 0
    unfolding new_paths_at
    new_paths_all = rows_all (new_path_at names g.steps) 2 work g.paths n.paths

    pub new_paths_next : (p : ℕ) → p < n.paths → new_paths_from names work n g p ≡ new_path_no names work g p ∷ new_paths_from names work n g (p + 1)
    unfolding new_paths_at
    new_paths_next p h = rows_cons (new_path_at names g.steps) 2 work g.paths n.paths p h

    pub new_paths_none : (p : ℕ) → n.paths ≤ p → new_paths_from names work n g p ≡ []
    unfolding new_paths_at
    new_paths_none p h = rows_none (new_path_at names g.steps) 2 work g.paths n.paths p h

-- a new path's steps, by its words
pub new_path_is : (names : List (List ℕ)) (work : List ℕ) (g : Layout) (p : ℕ) → new_path_no names work g p ≡ new_steps_from names work g (path_words work g p).first (path_words work g p).end
unfolding new_path_at
new_path_is names work g p =
    let first = get_or work (g.paths + 2 * p) 0 in
    let count = get_or work (g.paths + 2 * p + 1) 0 in
    let z : first + count - first ≡ count = omega arith in
    rw z

-- ---- tables that are read alike

rows_alike : {A : Type 0} (row row' : List ℕ → ℕ → A) (width : ℕ) (w w' : List ℕ) (base n : ℕ) → ((i : ℕ) → i < n → row' w' (base + width * i) ≡ row w (base + width * i))
    → rows_at row' width w' base n ≡ rows_at row width w base n
unfolding rows_at
rows_alike row row' width w w' base zero k = refl
rows_alike row row' width w w' base (suc n) k = rw (rows_alike row row' width w w' base n (λ i h. k i (omega arith)), k n (omega arith))

module _ (names names' : List (List ℕ)) (w w' : List ℕ) (g : Layout) where
  pub new_steps_alike : (k end : ℕ) → ((i : ℕ) → k ≤ i → i < end → new_step_no names' w' g i ≡ new_step_no names w g i) → new_steps_from names' w' g k end ≡ new_steps_from names w g k end
  unfolding new_steps_at
  new_steps_alike k end e =
      rows_alike (new_step_at names) (new_step_at names') 2 w w' (g.steps + 2 * k) (end - k)
      (λ i h. let place : g.steps + 2 * k + 2 * i ≡ g.steps + 2 * (k + i) = omega arith in rw place (e (k + i) (omega arith) (omega arith)))

  pub new_paths_alike : (p : ℕ) → ((i : ℕ) → i < p → new_path_no names' w' g i ≡ new_path_no names w g i) → new_paths_to names' w' g p ≡ new_paths_to names w g p
  unfolding new_paths_at
  new_paths_alike p e = rows_alike (new_path_at names g.steps) (new_path_at names' g.steps) 2 w w' g.paths p e
