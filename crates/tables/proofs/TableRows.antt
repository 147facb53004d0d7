-- The rows of each table: what a row that was stored says, and that a row whose words are kept says the same. Assumes nothing.
use Prim.Native.Nat.{ℕ, ◌+◌, ◌*◌, ◌≤◌}
use native.Mathlib.Omega.{arith}
use mathlib.Core.List.{List, [], ◌∷◌}
use mathlib.Core.Bool.{true}
use mathlib.Core.Path.{◌≡◌, refl}
use lib.ListN.{length, get_or}
use lib.Seq.{sets}
use Rattle.tables.specs.declared.entry.Record.{Record}
use Rattle.tables.specs.declared.entry.Record.TheVariants.{Segment, Link, Path, Header, Comment, Blank, Other}
use Rattle.gfa_spec.specs.Bytes.{part}
use Rattle.gfa_spec.specs.Reading.{fields, is_orientation}
use Rattle.scan.specs.Places.{part_at}
use Rattle.work.specs.Rows.{EachRow}
use Rattle.tables.specs.Segments.{segment_at, segments_at, SegmentRow}
use Rattle.tables.specs.Links.{link_at, links_at, LinkRow}
use Rattle.tables.specs.Steps.{step_at, steps_at, StepRow}
use Rattle.tables.specs.Paths.{kind_of, path_fields, path_at, paths_at, PathRow}
use Rattle.tables.specs.Entries.{words_of, record_of, record_at}
use Rattle.work.proofs.Stores.{sets_here, sets_first}
use Rattle.work.proofs.Rows.{KeptWords, rows_kept, each_kept}

-- ---- rows that are kept

module _ {lo hi : ℕ} {w w' : List ℕ} (k : KeptWords lo hi w w') (text : List ℕ) where
  module _ (at : ℕ) (l : lo ≤ at) where
    pub segment_kept : at + 6 ≤ hi → segment_at text w' at ≡ segment_at text w at
    unfolding segment_at
    segment_kept h =
        simp (
          k.word at l (omega arith),
          k.word (at + 1) (omega arith) (omega arith),
          k.word (at + 2) (omega arith) (omega arith),
          k.word (at + 3) (omega arith) (omega arith),
          k.word (at + 4) (omega arith) (omega arith),
          k.word (at + 5) (omega arith) (omega arith),
        )

    pub segment_row_kept : at + 6 ≤ hi → SegmentRow text w at → SegmentRow text w' at
    segment_row_kept h r =
        omega (
          arith,
          k.word at l (omega arith),
          k.word (at + 1) (omega arith) (omega arith),
          k.word (at + 2) (omega arith) (omega arith),
          k.word (at + 3) (omega arith) (omega arith),
          k.word (at + 4) (omega arith) (omega arith),
          k.word (at + 5) (omega arith) (omega arith),
        )

    pub link_kept : at + 8 ≤ hi → link_at text w' at ≡ link_at text w at
    unfolding link_at
    link_kept h =
        simp (
          k.word at l (omega arith),
          k.word (at + 1) (omega arith) (omega arith),
          k.word (at + 2) (omega arith) (omega arith),
          k.word (at + 3) (omega arith) (omega arith),
          k.word (at + 4) (omega arith) (omega arith),
          k.word (at + 5) (omega arith) (omega arith),
          k.word (at + 6) (omega arith) (omega arith),
          k.word (at + 7) (omega arith) (omega arith),
        )

    pub link_row_kept : at + 8 ≤ hi → LinkRow text w at → LinkRow text w' at
    link_row_kept h r =
        record {
          line = omega (arith, r.line, k.word at l (omega arith), k.word (at + 1) (omega arith) (omega arith));
          from = omega (arith, r.from, k.word (at + 2) (omega arith) (omega arith), k.word (at + 3) (omega arith) (omega arith));
          leaves = rw (k.word (at + 4) (omega arith) (omega arith)) r.leaves;
          to = omega (arith, r.to, k.word (at + 5) (omega arith) (omega arith), k.word (at + 6) (omega arith) (omega arith));
          enters = rw (k.word (at + 7) (omega arith) (omega arith)) r.enters;
        }

    pub step_kept : at + 3 ≤ hi → step_at text w' at ≡ step_at text w at
    unfolding step_at
    step_kept h = simp (k.word at l (omega arith), k.word (at + 1) (omega arith) (omega arith), k.word (at + 2) (omega arith) (omega arith))

    pub step_row_kept : at + 3 ≤ hi → StepRow text w at → StepRow text w' at
    step_row_kept h r =
        record {
          name = omega (arith, r.name, k.word at l (omega arith), k.word (at + 1) (omega arith) (omega arith));
          mark = rw (k.word (at + 2) (omega arith) (omega arith)) r.mark;
        }

    pub path_row_kept : {c d : ℕ} → at + 5 ≤ hi → c ≤ d → PathRow text c w at → PathRow text d w' at
    path_row_kept h e r =
        omega (
          arith,
          k.word (at + 1) (omega arith) (omega arith),
          k.word (at + 2) (omega arith) (omega arith),
          k.word (at + 3) (omega arith) (omega arith),
          k.word (at + 4) (omega arith) (omega arith),
        )

    pub record_kept : at + 3 ≤ hi → record_at w' at ≡ record_at w at
    unfolding record_at
    record_kept h = simp (k.word at l (omega arith), k.word (at + 1) (omega arith) (omega arith), k.word (at + 2) (omega arith) (omega arith))

  -- and the tables
  module _ (base n : ℕ) (l : lo ≤ base) where
    pub segments_kept : base + 7 * n ≤ hi → segments_at text w' base n ≡ segments_at text w base n
    unfolding segments_at
    segments_kept h = rows_kept (segment_at text) 7 base n (λ i a. segment_kept (base + 7 * i) (omega arith) (omega arith))

    pub segment_rows_kept : base + 7 * n ≤ hi → EachRow (SegmentRow text) 7 w base n → EachRow (SegmentRow text) 7 w' base n
    segment_rows_kept h e = each_kept e (λ i a. segment_row_kept (base + 7 * i) (omega arith) (omega arith))

    pub links_kept : base + 8 * n ≤ hi → links_at text w' base n ≡ links_at text w base n
    unfolding links_at
    links_kept h = rows_kept (link_at text) 8 base n (λ i a. link_kept (base + 8 * i) (omega arith) (omega arith))

    pub link_rows_kept : base + 8 * n ≤ hi → EachRow (LinkRow text) 8 w base n → EachRow (LinkRow text) 8 w' base n
    link_rows_kept h e = each_kept e (λ i a. link_row_kept (base + 8 * i) (omega arith) (omega arith))

    pub steps_kept : base + 3 * n ≤ hi → steps_at text w' base n ≡ steps_at text w base n
    unfolding steps_at
    steps_kept h = rows_kept (step_at text) 3 base n (λ i a. step_kept (base + 3 * i) (omega arith) (omega arith))

    pub step_rows_kept : base + 3 * n ≤ hi → EachRow (StepRow text) 3 w base n → EachRow (StepRow text) 3 w' base n
    step_rows_kept h e = each_kept e (λ i a. step_row_kept (base + 3 * i) (omega arith) (omega arith))

-- a path is kept where its row and its steps are
pub path_kept : {lo hi : ℕ} {w w' : List ℕ} (text : List ℕ) (steps at c : ℕ) → KeptWords lo hi w w' → lo ≤ at → at + 5 ≤ hi → KeptWords steps (steps + 3 * c) w w' →
    PathRow text c w at → path_at text steps w' at ≡ path_at text steps w at
unfolding path_at
path_kept {w = w} text steps at c r l h s b =
    let e = steps_kept s text (steps + 3 * get_or w (at + 3) 0) (get_or w (at + 4) 0) (omega arith) (omega arith) in
    rw (
      r.word at l (omega arith),
      r.word (at + 1) (omega arith) (omega arith),
      r.word (at + 2) (omega arith) (omega arith),
      r.word (at + 3) (omega arith) (omega arith),
      r.word (at + 4) (omega arith) (omega arith),
      e,
    )

pub paths_kept : {w w' : List ℕ} (text : List ℕ) (steps base n c : ℕ) → KeptWords base (base + 5 * n) w w' → KeptWords steps (steps + 3 * c) w w' →
    EachRow (PathRow text c) 5 w base n → paths_at text steps w' base n ≡ paths_at text steps w base n
unfolding paths_at
paths_kept text steps base n c r s e = rows_kept (path_at text steps) 5 base n (λ i a. path_kept text steps (base + 5 * i) c r (omega arith) (omega arith) s (e.row i a))

-- ---- rows that were stored

module _ (text w : List ℕ) (at : ℕ) where
  pub segment_put : (a b c d e f : ℕ) → at + 6 ≤ length w →
      segment_at text (sets w at (a ∷ b ∷ c ∷ d ∷ e ∷ f ∷ [])) at ≡ record { id = part c d text; sequence = part e f text; line = part a b text }
  unfolding segment_at
  segment_put a b c d e f h =
      let row = a ∷ b ∷ c ∷ d ∷ e ∷ f ∷ [] in
      simp (
        sets_first row w at (omega arith) h,
        sets_here row w at 1 (omega arith) h,
        sets_here row w at 2 (omega arith) h,
        sets_here row w at 3 (omega arith) h,
        sets_here row w at 4 (omega arith) h,
        sets_here row w at 5 (omega arith) h,
      )

  pub segment_row_put : (a b c d e f : ℕ) → at + 6 ≤ length w → a + b ≤ length text → c + d ≤ length text → e + f ≤ length text →
      SegmentRow text (sets w at (a ∷ b ∷ c ∷ d ∷ e ∷ f ∷ [])) at
  segment_row_put a b c d e f h p q r =
      let row = a ∷ b ∷ c ∷ d ∷ e ∷ f ∷ [] in
      omega (
        arith,
        sets_first row w at (omega arith) h,
        sets_here row w at 1 (omega arith) h,
        sets_here row w at 2 (omega arith) h,
        sets_here row w at 3 (omega arith) h,
        sets_here row w at 4 (omega arith) h,
        sets_here row w at 5 (omega arith) h,
      )

  pub link_put : (a b c d e f g i : ℕ) → at + 8 ≤ length w →
      link_at text (sets w at (a ∷ b ∷ c ∷ d ∷ e ∷ f ∷ g ∷ i ∷ [])) at
      ≡ record { from = part c d text; from_orientation = e; to = part f g text; to_orientation = i; line = part a b text }
  unfolding link_at
  link_put a b c d e f g i h =
      let row = a ∷ b ∷ c ∷ d ∷ e ∷ f ∷ g ∷ i ∷ [] in
      simp (
        sets_first row w at (omega arith) h,
        sets_here row w at 1 (omega arith) h,
        sets_here row w at 2 (omega arith) h,
        sets_here row w at 3 (omega arith) h,
        sets_here row w at 4 (omega arith) h,
        sets_here row w at 5 (omega arith) h,
        sets_here row w at 6 (omega arith) h,
        sets_here row w at 7 (omega arith) h,
      )

  pub link_row_put : (a b c d e f g i : ℕ) → at + 8 ≤ length w → a + b ≤ length text → c + d ≤ length text → f + g ≤ length text → is_orientation e ≡ true → is_orientation i ≡ true →
      LinkRow text (sets w at (a ∷ b ∷ c ∷ d ∷ e ∷ f ∷ g ∷ i ∷ [])) at
  link_row_put a b c d e f g i h p q r o u =
      let row = a ∷ b ∷ c ∷ d ∷ e ∷ f ∷ g ∷ i ∷ [] in
      record {
        line = omega (arith, p, sets_first row w at (omega arith) h, sets_here row w at 1 (omega arith) h);
        from = omega (arith, q, sets_here row w at 2 (omega arith) h, sets_here row w at 3 (omega arith) h);
        leaves = rw (sets_here row w at 4 (omega arith) h) o;
        to = omega (arith, r, sets_here row w at 5 (omega arith) h, sets_here row w at 6 (omega arith) h);
        enters = rw (sets_here row w at 7 (omega arith) h) u;
      }

  pub step_put : (a b c : ℕ) → at + 3 ≤ length w → step_at text (sets w at (a ∷ b ∷ c ∷ [])) at ≡ record { name = part_at text a b; orientation = c }
  unfolding step_at
  step_put a b c h =
      let row = a ∷ b ∷ c ∷ [] in
      simp (sets_first row w at (omega arith) h, sets_here row w at 1 (omega arith) h, sets_here row w at 2 (omega arith) h)

  pub step_row_put : (a b c : ℕ) → at + 3 ≤ length w → a + b ≤ length text → is_orientation c ≡ true → StepRow text (sets w at (a ∷ b ∷ c ∷ [])) at
  step_row_put a b c h p o =
      let row = a ∷ b ∷ c ∷ [] in
      record {
        name = omega (arith, p, sets_first row w at (omega arith) h, sets_here row w at 1 (omega arith) h);
        mark = rw (sets_here row w at 2 (omega arith) h) o;
      }

  pub path_put : (steps k a b c d : ℕ) → at + 5 ≤ length w →
      path_at text steps (sets w at (k ∷ a ∷ b ∷ c ∷ d ∷ [])) at ≡
      record { kind = kind_of k; fields = path_fields (kind_of k) (fields (part_at text a b)); steps = steps_at text (sets w at (k ∷ a ∷ b ∷ c ∷ d ∷ [])) (steps + 3 * c) d }
  unfolding path_at
  path_put steps k a b c d h =
      let row = k ∷ a ∷ b ∷ c ∷ d ∷ [] in
      simp (
        sets_first row w at (omega arith) h,
        sets_here row w at 1 (omega arith) h,
        sets_here row w at 2 (omega arith) h,
        sets_here row w at 3 (omega arith) h,
        sets_here row w at 4 (omega arith) h,
      )

  pub path_row_put : (m k a b c d : ℕ) → at + 5 ≤ length w → a + b ≤ length text → c + d ≤ m → PathRow text m (sets w at (k ∷ a ∷ b ∷ c ∷ d ∷ [])) at
  path_row_put m k a b c d h p q =
      let row = k ∷ a ∷ b ∷ c ∷ d ∷ [] in
      omega (
        arith,
        sets_here row w at 1 (omega arith) h,
        sets_here row w at 2 (omega arith) h,
        sets_here row w at 3 (omega arith) h,
        sets_here row w at 4 (omega arith) h,
      )

-- the record of three words that were stored
words_at : (w : List ℕ) (at a b c : ℕ) → at + 3 ≤ length w → record_at (sets w at (a ∷ b ∷ c ∷ [])) at ≡ record_of a b c
unfolding record_at
words_at w at a b c h =
    let row = a ∷ b ∷ c ∷ [] in
    simp (sets_first row w at (omega arith) h, sets_here row w at 1 (omega arith) h, sets_here row w at 2 (omega arith) h)

-- a record that was stored is read back
pub record_put : (r : Record) (w : List ℕ) (at : ℕ) → at + 3 ≤ length w → record_at (sets w at (words_of r)) at ≡ r
unfolding record_of
record_put (Segment n) w at h = words_at w at 0 n.0 0 h
record_put (Link n) w at h = words_at w at 1 n.0 0 h
record_put (Path n) w at h = words_at w at 2 n.0 0 h
record_put (Header l) w at h = words_at w at 3 l.start l.length h
record_put (Comment l) w at h = words_at w at 4 l.start l.length h
record_put (Blank l) w at h = words_at w at 5 l.start l.length h
record_put (Other l) w at h = words_at w at 6 l.start l.length h

-- a record has three words
pub three_words : (r : Record) → length (words_of r) ≡ 3
three_words (Segment n) = refl
three_words (Link n) = refl
three_words (Path n) = refl
three_words (Header l) = refl
three_words (Comment l) = refl
three_words (Blank l) = refl
three_words (Other l) = refl
