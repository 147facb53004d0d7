-- The words of a row, by its number. Assumes nothing.
use Prim.Native.Nat.{ℕ, ◌+◌, ◌*◌, ◌-◌, ◌≤◌, ◌<◌}
use native.Mathlib.Omega.{arith}
use native.Mathlib.Numerals.{add-one}
use mathlib.Core.List.{List, [], ◌∷◌, ◌++◌}
use mathlib.Core.Path.{◌≡◌, refl, ap, ◌∙◌}
use lib.ListN.{length, get_or}
use Rattle.tables.specs.declared.path_steps.Steps.{Steps}
use Rattle.tables.specs.declared.tables.Bases.{Bases}
use Rattle.tables.specs.declared.tables.Counts.{Counts}
use Rattle.tables.specs.declared.entry.Record.{Record}
use Rattle.scan.specs.declared.orientation.Orientation.{Orientation}
use Rattle.scan.specs.declared.places.Place.{Place}
use Rattle.scan.specs.Orientations.{sign_of}
use Rattle.gfa_spec.specs.Bytes.{nth}
use Rattle.gfa_spec.specs.Reading.{Segment, Path, Step}
use Rattle.work.specs.Rows.{rows_at}
use Rattle.tables.specs.Segments.{segment_at, segments_at}
use Rattle.tables.specs.Links.{link_at, links_at}
use Rattle.tables.specs.declared.kinds.PathKind.{PathKind}
use Rattle.tables.specs.Paths.{kind_of, kind_in, path_at, paths_at}
use Rattle.tables.specs.Steps.{step_at, steps_at}
use Rattle.tables.specs.Entries.{record_at, entry_at, entries_at}
use Rattle.tables.specs.Tables.{Readable}
use Rattle.work.proofs.Rows.{KeptWords, kept_within, rows_snoc, rows_length, rows_nth}
use Rattle.work.proofs.RowCuts.{rows_all, rows_cons, rows_none, rows_split}
use Rattle.tables.proofs.TableRows.{segment_kept, segments_kept, link_kept, links_kept, path_kept, paths_kept, step_kept, steps_kept}
use Rattle.tables.proofs.Standing.{tables_stand}
use Rattle.tables.specs.ByNumber.{entry_no, segment_no, link_no, path_no, step_no, segments_to, segments_of, segments_from, links_to, links_from, paths_to, paths_from, steps_from, tables_end, place_at, LineIs, SegmentIs, LinkIs, PathIs, StepIs}

-- ---- what a row says

module _ {text work : List ℕ} {b : Bases} {n : Counts} (t : Readable text work b n) where
  -- two words that stand behind each other
  next : (at d : ℕ) → get_or work (at + d + 1) 0 ≡ get_or work (at + (d + 1)) 0
  next at d = let e : at + d + 1 ≡ at + (d + 1) = omega arith in rw e

  pub line_is : {r : Record} (i : ℕ) → i < n.lines → r ≡ record_at work (b.lines + 3 * i) → LineIs text work b n i r
  unfolding entry_at
  line_is i h e = record { entry = rw e; fits = rw e (t.sound.lines.row i h).fits }

  module _ {line id sequence : Place} (i : ℕ) (h : i < n.segs) where
    pub segment_is : line ≡ place_at work (b.segs + 7 * i) → id ≡ place_at work (b.segs + 7 * i + 2) → sequence ≡ place_at work (b.segs + 7 * i + 4)
        → SegmentIs text work b i (record { line = line; id = id; sequence = sequence })
    unfolding segment_at
    segment_is el ei es =
        let at = b.segs + 7 * i in
        let q = t.sound.segs.row i h in
        rw (el, ei, es, next at 2, next at 4) (record { segment = refl; line = q.line; id = q.id; sequence = q.sequence })

  module _ {line from to : Place} {leaves enters : Orientation} (i : ℕ) (h : i < n.links) where
    pub link_is : line ≡ place_at work (b.links + 8 * i) → from ≡ place_at work (b.links + 8 * i + 2) → sign_of leaves ≡ get_or work (b.links + 8 * i + 4) 0
        → to ≡ place_at work (b.links + 8 * i + 5) → sign_of enters ≡ get_or work (b.links + 8 * i + 7) 0
        → LinkIs text work b i (record { line = line; from = from; leaves = leaves; to = to; enters = enters })
    unfolding link_at
    link_is el ef ea et ee =
        let at = b.links + 8 * i in
        let q = t.sound.links.row i h in
        rw (el, ef, et, next at 2, next at 5) (record { link = rw (ea, ee); line = q.line; from = q.from; to = q.to })

  module _ {line : Place} {word count : ℕ} {kind : PathKind} {steps : Steps} (p : ℕ) (h : p < n.paths) where
    pub path_is : steps.first ≡ get_or work (b.paths + 5 * p + 3) 0 → count ≡ get_or work (b.paths + 5 * p + 4) 0 → steps.end ≡ steps.first + count → word ≡ get_or work (b.paths + 5 * p) 0
        → kind_in kind ≡ kind_of word → line ≡ place_at work (b.paths + 5 * p + 1) → PathIs text work b n p (record { kind = kind; line = line; steps = steps })
    unfolding path_at
    path_is ef ec ee ew ek el =
        let at = b.paths + 5 * p in
        let q = t.sound.paths.row p h in
        let z : steps.end - steps.first ≡ count = omega (arith, ee) in
        let high : steps.end ≤ n.steps = rw (ee, ef, ec) (omega (arith, q)) in
        rw el (record { path = rw (z, ek, ew, ef, ec, next at 1); line = rw (next at 1) q.line; high = high })

  module _ {name : Place} {mark : Orientation} (i : ℕ) (h : i < n.steps) where
    pub step_told : name ≡ place_at work (b.steps + 3 * i) → sign_of mark ≡ get_or work (b.steps + 3 * i + 2) 0 → StepIs text work b i (record { name = name; mark = mark })
    unfolding step_at
    step_told en em =
        let q = t.sound.steps.row i h in
        rw en (record { step = rw em; name = q.name })

-- ---- the tables, row by row

module _ (text work : List ℕ) (b : Bases) where
  -- no entry, segment, link, path
  pub entries_zero : entries_at text work b 0 ≡ []
  unfolding entries_at rows_at
  entries_zero = refl

  pub segments_zero : segments_to text work b 0 ≡ []
  unfolding segments_at rows_at
  segments_zero = refl

  pub links_zero : links_to text work b 0 ≡ []
  unfolding links_at rows_at
  links_zero = refl

  pub paths_zero : paths_to text work b 0 ≡ []
  unfolding paths_at rows_at
  paths_zero = refl

  -- one more
  pub entries_more : (i : ℕ) → entries_at text work b (i + 1) ≡ entries_at text work b i ++ (entry_no text work b i ∷ [])
  unfolding entries_at
  entries_more i = rw (add-one, rows_snoc)

  pub segments_more : (i : ℕ) → segments_to text work b (i + 1) ≡ segments_to text work b i ++ (segment_no text work b i ∷ [])
  unfolding segments_at
  segments_more i = rw (add-one, rows_snoc)

  pub links_more : (i : ℕ) → links_to text work b (i + 1) ≡ links_to text work b i ++ (link_no text work b i ∷ [])
  unfolding links_at
  links_more i = rw (add-one, rows_snoc)

  pub paths_more : (p : ℕ) → paths_to text work b (p + 1) ≡ paths_to text work b p ++ (path_no text work b p ∷ [])
  unfolding paths_at
  paths_more p = rw (add-one, rows_snoc)

  -- there are as many as the number says
  pub segments_length : (i : ℕ) → length (segments_to text work b i) ≡ i
  unfolding segments_at
  segments_length i = rows_length (segment_at text) 7 work b.segs i

  pub links_length : (i : ℕ) → length (links_to text work b i) ≡ i
  unfolding links_at
  links_length i = rows_length (link_at text) 8 work b.links i

  pub paths_length : (p : ℕ) → length (paths_to text work b p) ≡ p
  unfolding paths_at
  paths_length p = rows_length (path_at text b.steps) 5 work b.paths p

  pub steps_length : (i end : ℕ) → length (steps_from text work b i end) ≡ end - i
  unfolding steps_at
  steps_length i end = rows_length (step_at text) 3 work (b.steps + 3 * i) (end - i)

  -- a row by its number
  pub segments_nth : (k i : ℕ) (d : Segment) → i < k → nth i (segments_to text work b k) d ≡ segment_no text work b i
  unfolding segments_at
  segments_nth k i d h = rows_nth (segment_at text) 7 work b.segs k i d h

  pub paths_nth : (k p : ℕ) (d : Path) → p < k → nth p (paths_to text work b k) d ≡ path_no text work b p
  unfolding paths_at
  paths_nth k p d h = rows_nth (path_at text b.steps) 5 work b.paths k p d h

  pub steps_nth : (i end k : ℕ) (d : Step) → i ≤ k → k < end → nth (k - i) (steps_from text work b i end) d ≡ step_no text work b k
  unfolding steps_at
  steps_nth i end k d l h =
      let place : b.steps + 3 * i + 3 * (k - i) ≡ b.steps + 3 * k = omega arith in
      rows_nth (step_at text) 3 work (b.steps + 3 * i) (end - i) (k - i) d (omega arith) ∙ rw place

  -- the steps from i on are i and the next; behind the last there is none
  pub steps_next : (i end : ℕ) → i < end → steps_from text work b i end ≡ step_no text work b i ∷ steps_from text work b (i + 1) end
  unfolding steps_at
  steps_next i end h = rows_cons (step_at text) 3 work b.steps end i h

  pub steps_none : (i end : ℕ) → end ≤ i → steps_from text work b i end ≡ []
  unfolding steps_at
  steps_none i end h = rows_none (step_at text) 3 work b.steps end i h

  -- they are cut at j
  pub steps_cut : (i j end : ℕ) → i ≤ j → j ≤ end → steps_from text work b i end ≡ steps_from text work b i j ++ steps_from text work b j end
  unfolding steps_at
  steps_cut i j end l u =
      let left : end - i ≡ j - i + (end - j) = omega arith in
      let place : b.steps + 3 * i + 3 * (j - i) ≡ b.steps + 3 * j = omega arith in
      rw (left, rows_split (step_at text) 3 work (b.steps + 3 * i) (j - i) (end - j), place)

  -- one step more
  pub steps_more : (i j : ℕ) → i ≤ j → steps_from text work b i (j + 1) ≡ steps_from text work b i j ++ (step_no text work b j ∷ [])
  steps_more i j l = steps_cut i j (j + 1) l (omega arith) ∙ rw (steps_next j (j + 1) (omega arith), steps_none (j + 1) (j + 1) (omega arith))

  module _ (n : Counts) where
    -- the segments from segment 0 on are all; those from i on are i and the next; behind the last there is none; so with links and paths
    pub segments_all : segments_of text work b n ≡ segments_from text work b n 0
    unfolding segments_at
    segments_all = rows_all (segment_at text) 7 work b.segs n.segs

    pub segments_next : (i : ℕ) → i < n.segs → segments_from text work b n i ≡ segment_no text work b i ∷ segments_from text work b n (i + 1)
    unfolding segments_at
    segments_next i h = rows_cons (segment_at text) 7 work b.segs n.segs i h

    pub segments_none : (i : ℕ) → n.segs ≤ i → segments_from text work b n i ≡ []
    unfolding segments_at
    segments_none i h = rows_none (segment_at text) 7 work b.segs n.segs i h

    pub links_all : links_to text work b n.links ≡ links_from text work b n 0
    unfolding links_at
    links_all = rows_all (link_at text) 8 work b.links n.links

    pub links_next : (i : ℕ) → i < n.links → links_from text work b n i ≡ link_no text work b i ∷ links_from text work b n (i + 1)
    unfolding links_at
    links_next i h = rows_cons (link_at text) 8 work b.links n.links i h

    pub links_none : (i : ℕ) → n.links ≤ i → links_from text work b n i ≡ []
    unfolding links_at
    links_none i h = rows_none (link_at text) 8 work b.links n.links i h

    pub paths_all : paths_to text work b n.paths ≡ paths_from text work b n 0
    unfolding paths_at
    paths_all = rows_all (path_at text b.steps) 5 work b.paths n.paths

    pub paths_next : (p : ℕ) → p < n.paths → paths_from text work b n p ≡ path_no text work b p ∷ paths_from text work b n (p + 1)
    unfolding paths_at
    paths_next p h = rows_cons (path_at text b.steps) 5 work b.paths n.paths p h

    pub paths_none : (p : ℕ) → n.paths ≤ p → paths_from text work b n p ≡ []
    unfolding paths_at
    paths_none p h = rows_none (path_at text b.steps) 5 work b.paths n.paths p h

    -- all paths are the first p and those from p on
    pub paths_cut : (p : ℕ) → p ≤ n.paths → paths_to text work b n.paths ≡ paths_to text work b p ++ paths_from text work b n p
    unfolding paths_at
    paths_cut p h =
        let e : n.paths ≡ p + (n.paths - p) = omega arith in
        ap (rows_at (path_at text b.steps) 5 work b.paths) e ∙ rows_split (path_at text b.steps) 5 work b.paths p (n.paths - p)

-- ---- what stays where only words behind the tables change

-- the words of the tables are as they were
abbrev pub TablesKept : Bases → Counts → List ℕ → List ℕ → Type 0
TablesKept b n w w' = KeptWords b.lines (tables_end b n) w w'

module _ {text w w' : List ℕ} {b : Bases} {n : Counts} (t : Readable text w b n) (k : TablesKept b n w w') where
  pub readable_stands : length w' ≡ length w → Readable text w' b n
  readable_stands e = record { laid = rw e t.laid; few = t.few; sound = (tables_stand t.laid t.sound k).sound e }

  pub segment_stands : (i : ℕ) → i < n.segs → segment_no text w' b i ≡ segment_no text w b i
  segment_stands i h = let l = t.laid in segment_kept k text (b.segs + 7 * i) (omega arith) (omega arith)

  pub link_stands : (i : ℕ) → i < n.links → link_no text w' b i ≡ link_no text w b i
  link_stands i h = let l = t.laid in link_kept k text (b.links + 8 * i) (omega arith) (omega arith)

  pub path_stands : (p : ℕ) → p < n.paths → path_no text w' b p ≡ path_no text w b p
  path_stands p h =
      let l = t.laid in
      path_kept text b.steps (b.paths + 5 * p) n.steps k (omega arith) (omega arith) (kept_within b.steps (b.steps + 3 * n.steps) k (omega arith) (omega arith)) (t.sound.paths.row p h)

  pub step_stands : (i : ℕ) → i < n.steps → step_no text w' b i ≡ step_no text w b i
  step_stands i h = let l = t.laid in step_kept k text (b.steps + 3 * i) (omega arith) (omega arith)

  pub steps_stand : (i end : ℕ) → i ≤ end → end ≤ n.steps → steps_from text w' b i end ≡ steps_from text w b i end
  steps_stand i end g h = let l = t.laid in steps_kept k text (b.steps + 3 * i) (end - i) (omega arith) (omega arith)

  -- and whole tables
  pub segments_stand : segments_of text w' b n ≡ segments_of text w b n
  segments_stand = let l = t.laid in segments_kept k text b.segs n.segs (omega arith) (omega arith)

  pub links_stand : (i : ℕ) → i ≤ n.links → links_to text w' b i ≡ links_to text w b i
  links_stand i h = let l = t.laid in links_kept k text b.links i (omega arith) (omega arith)

  pub paths_stand : paths_to text w' b n.paths ≡ paths_to text w b n.paths
  paths_stand =
      let l = t.laid in
      paths_kept text b.steps b.paths n.paths n.steps
      (kept_within b.paths (b.paths + 5 * n.paths) k (omega arith) (omega arith))
      (kept_within b.steps (b.steps + 3 * n.steps) k (omega arith) (omega arith)) t.sound.paths
