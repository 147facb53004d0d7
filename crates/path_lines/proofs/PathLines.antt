-- A path's line with another field of steps: the line before that field, the field, and what stands behind it. Assumes nothing.
use Prim.Native.Nat.{ℕ, zero, suc, ◌+◌, ◌-◌, ◌≤◌, ◌<◌}
use native.Mathlib.Omega.{arith}
use mathlib.Core.Bool.{false}
use mathlib.Core.List.{List, [], ◌∷◌, ◌++◌, map, append-nil, append_assoc}
use mathlib.Core.Path.{◌≡◌, refl, sym, ap, ◌∙◌}
use lib.Dec.{eqb}
use lib.ListN.{length, take, drop, length-map}
use lib.Seq.{drop-drop}
use borrow.Author.Tests.{eq-eqb, ne_eqb}
use Rattle.gfa_spec.specs.Bytes.{Part, bytes_of, nth, part, split, star, join_with, tabbed, end_line}
use Rattle.gfa_spec.specs.Reading.{Kind, P, W, fields, nowhere}
use Rattle.gfa_spec.proofs.Located.{drop_front}
use Rattle.gfa_spec.proofs.Parts.{length_part, part_front}
use Rattle.gfa_spec.proofs.Tests.{by_test}
use Rattle.gfa_spec.proofs.Splitting.{split_ind, join_split, join_with_cons}
use Rattle.normalize_spec.specs.Folding.{NewStep}
use Rattle.normalize_spec.specs.Writing.{step_field, replace, with_steps, path_line}
use Rattle.std.specs.Prelude.{Option, Some, None}
use Rattle.scan.specs.declared.places.Place.{Place}
use Rattle.scan.specs.Places.{part_at, bytes_in, FoundAt, FieldIs}
use Rattle.scan.proofs.Fields.{found_at, few_fields}
use Rattle.tables.specs.declared.tables.Bases.{Bases}
use Rattle.tables.specs.declared.tables.Counts.{Counts}
use Rattle.tables.specs.declared.kinds.PathKind.{PathKind}
use Rattle.tables.specs.declared.kinds.PathKind.TheVariants as kind
use Rattle.tables.specs.declared.rows.PathWords.{PathWords}
use Rattle.tables.specs.Paths.{kind_in, column_of, path_fields}
use Rattle.tables.specs.ByNumber.{PathIs}
use Rattle.normalize_tables.specs.declared.layout.Layout.{Layout}
use Rattle.normalize_tables.specs.NewByNumber.{new_path_no}
use Rattle.writers.specs.declared.writer.Writer.{Writer}
use Rattle.writers.specs.Writers.{Puts}
use Rattle.writers.proofs.Writing.{as_piece, ◌▷◌}
use Rattle.path_lines.proofs.StepFields.{joined_last}
use Rattle.path_lines.specs.PathPieces.{fields_in, overlaps_of, path_piece}

-- ---- one part of a string replaced

-- where a part ends
abbrev end_of : Part → ℕ
end_of p = p.at + length p.bytes

-- the part at `at`, of a string whose first byte is at `start`, replaced by x
swapped : ℕ → List ℕ → List ℕ → Part → List ℕ
swapped start s x p = take (p.at - start) s ++ (x ++ drop (p.at + length p.bytes - start) s)

-- one part more in front: the others, one of them replaced, stay as many
join_front : (b : ℕ) (f x : List ℕ) (k : ℕ) (g : List ℕ) (gs : List (List ℕ)) → join_with b (f ∷ replace k x (g ∷ gs)) ≡ f ++ (b ∷ join_with b (replace k x (g ∷ gs)))
unfolding join_with replace
join_front b f x zero g gs = refl
join_front b f x (suc k) g gs = refl

-- What is said of the parts of a string: joined they are the string; each begins and ends in it; with one of them replaced they are the string with that part replaced.
record Swaps (b : ℕ) (x : List ℕ) (at : ℕ) (s : List ℕ) (ps : List Part) : Type 0 where
  whole : join_with b (map bytes_of ps) ≡ s
  low : (k : ℕ) → k < length ps → at ≤ (nth k ps nowhere).at
  high : (k : ℕ) → k < length ps → end_of (nth k ps nowhere) ≤ at + length s
  one : (k : ℕ) → k < length ps → join_with b (replace k x (map bytes_of ps)) ≡ swapped at s x (nth k ps nowhere)

module _ (b : ℕ) (x : List ℕ) where
  swaps_last : (at : ℕ) → Swaps b x at [] (record { at = at; bytes = [] } ∷ [])
  unfolding join_with replace swapped bytes_of nth
  swaps_last at = record { whole = refl; low = low; high = high; one = one }
    where
      low : (k : ℕ) → k < 1 → at ≤ (nth k (record { at = at; bytes = [] } ∷ []) nowhere).at
      low zero l = omega arith
      low (suc k) l = absurd (omega arith)

      high : (k : ℕ) → k < 1 → end_of (nth k (record { at = at; bytes = [] } ∷ []) nowhere) ≤ at + 0
      high zero l = omega arith
      high (suc k) l = absurd (omega arith)

      one : (k : ℕ) → k < 1 → join_with b (replace k x ([] ∷ [])) ≡ swapped at [] x (nth k (record { at = at; bytes = [] } ∷ []) nowhere)
      one zero l =
          let none : at - at ≡ 0 = omega arith in
          let end : at + 0 - at ≡ 0 = omega arith in
          rw (none, end, append-nil)
      one (suc k) l = absurd (omega arith)

  swaps_gap : (at : ℕ) (s : List ℕ) (p : Part) (ps : List Part) → p.at ≡ suc at → Swaps b x (suc at) s (p ∷ ps) → Swaps b x at (b ∷ s) (record { at = at; bytes = [] } ∷ (p ∷ ps))
  unfolding join_with replace swapped bytes_of nth
  swaps_gap at s p ps f h = record { whole = ap (λ r. b ∷ r) h.whole; low = low; high = high; one = one }
    where
      low : (k : ℕ) → k < suc (length (p ∷ ps)) → at ≤ (nth k (record { at = at; bytes = [] } ∷ (p ∷ ps)) nowhere).at
      low zero l = omega arith
      low (suc k) l = omega (arith, h.low k (omega arith))

      high : (k : ℕ) → k < suc (length (p ∷ ps)) → end_of (nth k (record { at = at; bytes = [] } ∷ (p ∷ ps)) nowhere) ≤ at + suc (length s)
      high zero l = omega arith
      high (suc k) l = omega (arith, h.high k (omega arith))

      one : (k : ℕ) → k < suc (length (p ∷ ps)) → join_with b (replace k x ([] ∷ map bytes_of (p ∷ ps))) ≡ swapped at (b ∷ s) x (nth k (record { at = at; bytes = [] } ∷ (p ∷ ps)) nowhere)
      one zero l =
          let none : at - at ≡ 0 = omega arith in
          let end : at + 0 - at ≡ 0 = omega arith in
          rw (none, end) (ap (λ r. x ++ (b ∷ r)) h.whole)
      one (suc k) l =
          let q = nth k (p ∷ ps) nowhere in
          let low = h.low k (omega arith) in
          let front : q.at - at ≡ suc (q.at - suc at) = omega arith in
          let end : q.at + length q.bytes - at ≡ suc (q.at + length q.bytes - suc at) = omega arith in
          join_front b [] x k p.bytes (map bytes_of ps) ∙ rw (front, end) (ap (λ r. b ∷ r) (h.one k (omega arith)))

  swaps_more : (at c : ℕ) (s : List ℕ) (p : Part) (ps : List Part) → eqb c b ≡ false → p.at ≡ suc at → Swaps b x (suc at) s (p ∷ ps)
      → Swaps b x at (c ∷ s) (record { at = at; bytes = c ∷ p.bytes } ∷ ps)
  unfolding replace swapped bytes_of nth
  swaps_more at c s p ps e f h = record { whole = join_with_cons b c p.bytes (map bytes_of ps) ∙ ap (λ r. c ∷ r) h.whole; low = low; high = high; one = one }
    where
      low : (k : ℕ) → k < suc (length ps) → at ≤ (nth k (record { at = at; bytes = c ∷ p.bytes } ∷ ps) nowhere).at
      low zero l = omega arith
      low (suc k) l = omega (arith, h.low (suc k) (omega arith))

      high : (k : ℕ) → k < suc (length ps) → end_of (nth k (record { at = at; bytes = c ∷ p.bytes } ∷ ps) nowhere) ≤ at + suc (length s)
      high zero l = omega (arith, h.high 0 (omega arith))
      high (suc k) l = omega (arith, h.high (suc k) (omega arith))

      one : (k : ℕ) → k < suc (length ps)
          → join_with b (replace k x ((c ∷ p.bytes) ∷ map bytes_of ps)) ≡ swapped at (c ∷ s) x (nth k (record { at = at; bytes = c ∷ p.bytes } ∷ ps) nowhere)
      one zero l =
          let none : at - at ≡ 0 = omega arith in
          let before : p.at - suc at ≡ 0 = omega arith in
          let end : at + suc (length p.bytes) - at ≡ suc (length p.bytes) = omega arith in
          let last : p.at + length p.bytes - suc at ≡ length p.bytes = omega arith in
          rw (none, end) (rw (before, last) at (h.one 0 (omega arith)))
      one (suc k) l =
          let q = nth k ps nowhere in
          let low = h.low (suc k) (omega arith) in
          let front : q.at - at ≡ suc (q.at - suc at) = omega arith in
          let end : q.at + length q.bytes - at ≡ suc (q.at + length q.bytes - suc at) = omega arith in
          join_with_cons b c p.bytes (replace k x (map bytes_of ps)) ∙ rw (front, end) (ap (λ r. c ∷ r) (h.one (suc k) (omega arith)))

  -- so it is with every string
  split_swaps : (at : ℕ) (s : List ℕ) → Swaps b x at s (split b at s)
  split_swaps at s = split_ind b (Swaps b x) swaps_last swaps_gap swaps_more at s

-- ---- a field of a line replaced

-- the rest of a part
part_rest : (from n m : ℕ) (text : List ℕ) → m ≤ n → drop m (part from n text) ≡ part (from + m) (n - m) text
unfolding part
part_rest from n m text h =
    let whole : n ≡ m + (n - m) = omega arith in
    ap (λ (k : ℕ). drop m (take k (drop from text))) whole ∙ drop_front m (n - m) (drop from text) ∙ rw drop-drop

module _ {text : List ℕ} {start size k at long : ℕ} (inside : start + size ≤ length text) (f : FoundAt text start size k at long) where
  -- what is said of the line's fields
  swaps : (x : List ℕ) → Swaps 9 x start (part start size text) (fields (part_at text start size))
  unfolding fields part_at
  swaps x = split_swaps 9 x start (part start size text)

  -- the field is where it was found
  found_start : (nth k (fields (part_at text start size)) nowhere).at ≡ at
  unfolding part_at
  found_start = ap (λ p. p.at) f.field

  found_long : length (nth k (fields (part_at text start size)) nowhere).bytes ≡ long
  unfolding part_at
  found_long = ap (λ p. length p.bytes) f.field ∙ length_part at long text f.inside

  -- in the line
  found_within : (start ≤ at) × (at + long ≤ start + size)
  found_within =
      let s = swaps [] in
      (omega (arith, s.low k f.more, found_start), omega (arith, s.high k f.more, found_start, found_long, length_part start size text inside))

  -- the line with another field there
  line_swapped : (x : List ℕ)
      → join_with 9 (replace k x (map bytes_of (fields (part_at text start size)))) ≡ part start (at - start) text ++ (x ++ part (at + long) (start + size - (at + long)) text)
  unfolding swapped
  line_swapped x =
      let (low, high) = found_within in
      let place : start + (at + long - start) ≡ at + long = omega arith in
      let left : size - (at + long - start) ≡ start + size - (at + long) = omega arith in
      (swaps x).one k f.more
      ∙ rw (found_start, found_long, part_front start size (at - start) text (omega arith), part_rest start size (at + long - start) text (omega arith), place, left)

-- ---- the fields of a path

-- a field is replaced where it is
replace_long : (k : ℕ) (x : List ℕ) (fs : List (List ℕ)) → length (replace k x fs) ≡ length fs
unfolding replace
replace_long k x [] = refl
replace_long zero x (f ∷ fs) = refl
replace_long (suc k) x (f ∷ fs) = ap suc (replace_long k x fs)

replace_front : (k : ℕ) (x : List ℕ) (fs gs : List (List ℕ)) → k < length fs → replace k x (fs ++ gs) ≡ replace k x fs ++ gs
unfolding replace
replace_front k x [] gs h = absurd (omega arith)
replace_front zero x (f ∷ fs) gs h = refl
replace_front (suc k) x (f ∷ fs) gs h = ap (λ r. f ∷ r) (replace_front k x fs gs (omega arith))

replace_past : (k : ℕ) (x : List ℕ) (fs : List (List ℕ)) → length fs ≤ k → replace k x fs ≡ fs
unfolding replace
replace_past k x [] h = refl
replace_past zero x (f ∷ fs) h = absurd (omega arith)
replace_past (suc k) x (f ∷ fs) h = ap (λ r. f ∷ r) (replace_past k x fs (omega arith))

-- the new steps replace the field of the steps
steps_replaced : (kind : Kind) (steps : List NewStep) (fs : List (List ℕ)) → with_steps kind steps fs ≡ replace (column_of kind) (step_field kind steps) fs
unfolding with_steps column_of
steps_replaced P steps fs = refl
steps_replaced W steps fs = refl

module _ (x : List ℕ) (fs : List Part) where
  -- the line's fields with overlaps behind them, where a P line has none
  fields_swapped : (kind : Kind) → column_of kind < length fs
      → tabbed (replace (column_of kind) x (path_fields kind fs)) ≡ join_with 9 (replace (column_of kind) x (map bytes_of fs)) ++ overlaps_of kind fs
  unfolding tabbed path_fields overlaps_of column_of star
  fields_swapped P h =
      let many : length (replace 2 x (map bytes_of fs)) ≡ length fs = replace_long 2 x (map bytes_of fs) ∙ length-map fs bytes_of in
      let few : length (map bytes_of fs) ≡ length fs = length-map fs bytes_of in
      by_test (eqb (length fs) 3)
      (λ e. rw (e, replace_front 2 x (map bytes_of fs) _ (omega arith)) (joined_last 9 (replace 2 x (map bytes_of fs)) _ (omega arith)))
      (λ e. simp (e, append-nil))
  fields_swapped W h = sym (append-nil _)

  -- a line without that field stays as it is
  fields_kept : (kind : Kind) → length fs ≤ column_of kind → tabbed (replace (column_of kind) x (path_fields kind fs)) ≡ join_with 9 (map bytes_of fs)
  unfolding tabbed path_fields column_of
  fields_kept P h = rw (ne_eqb (length fs) 3 (λ e. omega arith), append-nil, replace_past 2 x (map bytes_of fs) (rw length-map h))
  fields_kept W h = rw (replace_past 6 x (map bytes_of fs) (rw length-map h))

-- ---- the line of a path

-- its kind
abbrev kind_at : PathWords → Kind
kind_at r = kind_in r.kind

module _ {text work : List ℕ} {b : Bases} {n : Counts} {p : ℕ} {r : PathWords} (e : PathIs text work b n p r) where
  -- the piece by the words of the row
  piece_line : (names : List (List ℕ)) (g : Layout) → path_piece names text work b g p
      ≡ end_line (tabbed (replace (column_of (kind_at r)) (step_field (kind_at r) (new_path_no names work g p)) (path_fields (kind_at r) (fields_in text r.line))))
  unfolding path_piece path_line
  piece_line names g = rw e.path (ap (λ l. end_line (tabbed l)) (steps_replaced _ _ _))

  module _ {c : ℕ} {f : Option Place} (ec : c ≡ column_of (kind_at r)) (found : FieldIs text r.line c f) where
    -- a line without the field of the steps is written as it came
    few_kept : (names : List (List ℕ)) (g : Layout) → f ≡ None → end_line (bytes_in text r.line) ≡ path_piece names text work b g p
    few_kept names g t =
        let q = few_fields found t in
        sym (piece_line names g
        ∙ ap end_line (fields_kept _ (fields_in text r.line) (kind_at r) (rw ec at q.few)
        ∙ (unfold fields part_at in join_split 9 r.line.start (bytes_in text r.line))))

    pub path_missing : (names : List (List ℕ)) (g : Layout) {before after : Writer} {line : List ℕ} → f ≡ None → line ≡ bytes_in text r.line → Puts before (end_line line) after
        → Puts before (path_piece names text work b g p) after
    path_missing names g t z v = as_piece (ap end_line z ∙ few_kept names g t) v

    module _ {s : Place} (t : f ≡ Some s) where
      -- it is in the line
      path_field : (r.line.start ≤ s.start) × (s.start + s.size ≤ r.line.start + r.line.size) × (column_of (kind_at r) < length (fields_in text r.line))
      path_field = let q = found_at found t in let w = found_within e.line q in (w.0, w.1, rw ec at q.more)

      pub path_low : r.line.start ≤ s.start
      path_low = path_field.0

      -- what stands behind it is in the line
      pub path_behind : r.line.start ≤ s.start + s.size
      path_behind = omega (arith, path_field.0)

      pub path_end : s.start + s.size ≤ r.line.start + r.line.size
      path_end = path_field.1

      -- and the line has the field
      pub path_column : column_of (kind_at r) < length (fields_in text r.line)
      path_column = path_field.2

      -- the line is written up to that field, with the new one, and with what stands behind it
      pub path_put : (names : List (List ℕ)) (g : Layout) {before x y after : Writer} → Puts before (part r.line.start (s.start - r.line.start) text) x
          → Puts x (step_field (kind_at r) (new_path_no names work g p)) y
          → Puts y (end_line (part (s.start + s.size) (r.line.start + r.line.size - (s.start + s.size)) text ++ overlaps_of (kind_at r) (fields_in text r.line))) after
          → Puts before (path_piece names text work b g p) after
      unfolding end_line
      path_put names g front field rest =
          let new = step_field (kind_at r) (new_path_no names work g p) in
          let old : FoundAt text r.line.start r.line.size (column_of (kind_at r)) s.start s.size = rw ec at (found_at found t) in
          let swapped = line_swapped e.line old new in
          let all = fields_swapped new (fields_in text r.line) (kind_at r) old.more in
          rw (piece_line names g, all, swapped) (as_piece (simp append_assoc) (front ▷ field ▷ rest))

-- ---- what stands behind the field of the steps

module _ (text : List ℕ) (line : Place) {before after : Writer} where
  -- the end of a P line: with overlaps
  module _ {f : Option Place} (found : FieldIs text line 3 f) where
    pub overlaps_there : {s : Place} → f ≡ Some s → Puts before (10 ∷ []) after → Puts before (end_line (overlaps_of P (fields_in text line))) after
    unfolding overlaps_of end_line
    overlaps_there t v =
        let q = found_at found t in
        rw (ne_eqb (length (fields_in text line)) 3 (λ z. omega (arith, q.more))) v

    -- without: they are `*` (42), behind a tab
    pub overlaps_missing : f ≡ None → 2 < length (fields_in text line) → Puts before (9 ∷ 42 ∷ 10 ∷ []) after → Puts before (end_line (overlaps_of P (fields_in text line))) after
    unfolding overlaps_of end_line
    overlaps_missing t h v =
        let q = few_fields found t in
        rw (eq-eqb (length (fields_in text line)) 3 (omega (arith, q.few))) v

  -- the rest of a line, by the kind
  module _ {k : PathKind} (end size : ℕ) {x : Writer} (rest : Puts before (part end size text) x) where
    pub rest_of_p : k ≡ kind.P → Puts x (end_line (overlaps_of P (fields_in text line))) after
        → Puts before (end_line (part end size text ++ overlaps_of (kind_in k) (fields_in text line))) after
    unfolding end_line
    rest_of_p e v = rw (e, append_assoc) (rest ▷ v)

    pub rest_of_w : k ≡ kind.W → Puts x (10 ∷ []) after → Puts before (end_line (part end size text ++ overlaps_of (kind_in k) (fields_in text line))) after
    unfolding end_line overlaps_of
    rest_of_w e v = rw (e, append-nil) (rest ▷ v)

-- a P line has its steps in field 2
pub p_fields_many : {k : PathKind} {n : ℕ} → k ≡ kind.P → column_of (kind_in k) < n → 2 < n
unfolding column_of
p_fields_many e h = rw e at h
