-- The tables of a text fit into four words for each byte, and 64 more; what a line uses and leaves. Assumes nothing.
use Prim.Native.Nat.{ℕ, zero, suc, ◌+◌, ◌*◌, ◌-◌, ◌≤◌, ◌<◌}
use native.Mathlib.Decide.{ℕ_discrete}
use native.Mathlib.Omega.{arith}
use mathlib.Core.Bool.{Bool, true, false, cond}
use mathlib.Core.List.{List, [], ◌∷◌, map}
use mathlib.Core.Path.{◌≡◌, refl, ap}
use lib.Dec.{eqb}
use lib.ListN.{length, get_or}
use borrow.Author.Tests.{ne_eqb}
use Rattle.gfa_spec.specs.Bytes.{Part, bytes_of, sum, part, is_empty, longer, split, nth}
use Rattle.gfa_spec.specs.Reading.{Kind, P, W, drop_final, line_of, lines, fields, nowhere}
use Rattle.tables.specs.declared.tables.Counts.{Counts}
use Rattle.scan.specs.Places.{part_at, FoundAt}
use Rattle.tables.specs.Tables.{one_more}
use Rattle.tables.specs.Paths.{letter_of, column_of}
use Rattle.lines.specs.Room.{starting, segs_in, links_in, paths_in, spare_in, total, bases_of}
use Rattle.lines.specs.Columns.{HasColumn}
use Rattle.lines.specs.Lines.{Spent}
use Rattle.gfa_spec.proofs.Parts.{part_first, length_part}
use Rattle.gfa_spec.proofs.Lines.{drop_return_front}
use Rattle.gfa_spec.proofs.Splitting.{length_split}

-- ---- weights

-- the bytes of some parts, with a separator for each
unfoldable pub weight : List Part → ℕ
weight ps = sum (map length (map bytes_of ps)) + length ps

-- what is split has one separator less
pub weight_split : (b at : ℕ) (s : List ℕ) → weight (split b at s) ≡ suc (length s)
unfolding weight
weight_split b at s = length_split b at s

-- the end of a text, and of a line, weighs nothing
weight_final : (ps : List Part) → weight (drop_final ps) ≤ weight ps
unfolding weight sum bytes_of drop_final
weight_final [] = omega arith
weight_final (p ∷ []) = go (is_empty p.bytes)
  where
    go : (t : Bool) → weight (cond t [] (p ∷ [])) ≤ weight (p ∷ [])
    go true = omega arith
    go false = omega arith
weight_final (p ∷ (q ∷ ps)) = omega (arith, weight_final (q ∷ ps))

weight_lines : (ps : List Part) → weight (map line_of ps) ≤ weight ps
unfolding weight sum bytes_of line_of
weight_lines [] = omega arith
weight_lines (p ∷ ps) = omega (arith, weight_lines ps, (drop_return_front p.bytes).0)

-- the lines of a text weigh no more than its bytes, and one
pub weight_text : (text : List ℕ) → weight (lines text) ≤ suc (length text)
unfolding lines
weight_text text = omega (arith, weight_lines (drop_final (split 10 0 text)), weight_final (split 10 0 text), weight_split 10 0 text)

-- ---- the tables of a text

-- the rows of a line fit into its bytes
line_fits : (s : List ℕ) → 3 + 8 * segs_in s + 8 * links_in s + 5 * paths_in s ≤ 4 * suc (length s)
unfolding segs_in links_in paths_in starting
line_fits [] = omega arith
line_fits (x ∷ []) = omega arith
line_fits (x ∷ (y ∷ ys)) = go (ℕ_discrete x 83) (ℕ_discrete x 76) (ℕ_discrete x 80) (ℕ_discrete x 87)
  where
    go : Dec (x ≡ 83) → Dec (x ≡ 76) → Dec (x ≡ 80) → Dec (x ≡ 87) →
        3 + 8 * cond (eqb x 83) 1 0 + 8 * cond (eqb x 76) 1 0 + 5 * (cond (eqb x 80) 1 0 + cond (eqb x 87) 1 0) ≤ 4 * suc (suc (suc (length ys)))
    go (yes e) l p w = rw e (omega arith)
    go (no s) (yes e) p w = rw e (omega arith)
    go (no s) (no l) (yes e) w = rw e (omega arith)
    go (no s) (no l) (no p) (yes e) = rw e (omega arith)
    go (no s) (no l) (no p) (no w) = rw (ne_eqb x 83 s, ne_eqb x 76 l, ne_eqb x 80 p, ne_eqb x 87 w) (omega arith)

-- the rows of some lines, with what the lines leave, are four words for each byte and each line feed
pub lines_sum : (ls : List Part) → 3 * length ls + 8 * total segs_in ls + 8 * total links_in ls + 5 * total paths_in ls + total spare_in ls ≡ 4 * weight ls
unfolding weight sum bytes_of total spare_in
lines_sum [] = refl
lines_sum (l ∷ ls) = omega (arith, line_fits l.bytes, lines_sum ls)

-- the tables of a text, with what its lines leave, fit into four words for each byte and 28 more
pub tables_fit : (text : List ℕ) → (bases_of (lines text)).steps + total spare_in (lines text) ≤ 4 * length text + 28
tables_fit text = omega (arith, lines_sum (lines text), weight_text text)

-- ---- a line

-- a part weighs no more than all, and one for each before it
nth_weight : (k : ℕ) (ps : List Part) → k < length ps → suc (length (nth k ps nowhere).bytes) + k ≤ weight ps
unfolding weight sum bytes_of nth
nth_weight k [] h = absurd (omega arith)
nth_weight zero (p ∷ ps) h = omega arith
nth_weight (suc k) (p ∷ ps) h = omega (arith, nth_weight k ps (omega arith))

-- a part behind the first, which has a byte
later_weight : (k : ℕ) (ps : List Part) → suc k < length ps → 0 < length (nth 0 ps nowhere).bytes → suc (suc (suc (length (nth (suc k) ps nowhere).bytes))) + k ≤ weight ps
unfolding weight sum bytes_of nth
later_weight k [] h s = absurd (omega arith)
later_weight k (p ∷ ps) h s = omega (arith, nth_weight k ps (omega arith))

-- the first field of a line that begins with no tab has a byte
first_some : (at x : ℕ) (xs : List ℕ) → (x ≡ 9 → ⊥) → 0 < length (nth 0 (split 9 at (x ∷ xs)) nowhere).bytes
unfolding split nth longer
first_some at x xs h = rw (ne_eqb x 9 h) (go (split 9 (suc at) xs))
  where
    go : (ps : List Part) → 0 < length (nth 0 (longer at x ps) nowhere).bytes
    go [] = omega arith
    go (p ∷ ps) = omega arith

module _ {text : List ℕ} {start size k : ℕ} (c : HasColumn text start size (suc k)) where
  -- a line with a second field is not empty
  field_some : k + 1 ≤ size
  unfolding fields part_at
  field_some = omega (arith, nth_weight (suc k) (fields (part_at text start size)) c.more, weight_split 9 start (part start size text), length_part start size text c.inside)

  -- a field behind the first is shorter than the line by its place and one
  pub column_weight : (get_or text start 0 ≡ 9 → ⊥) → length (nth (suc k) (fields (part_at text start size)) nowhere).bytes + (k + 2) ≤ size
  unfolding fields part_at
  column_weight n =
      let b = part_first start size text (omega (arith, field_some)) c.inside in
      let s = first_some start (get_or text start 0) (part (suc start) (size - 1) text) n in
      let t : 0 < length (nth 0 (fields (part_at text start size)) nowhere).bytes = rw b s in
      omega (arith, later_weight k (fields (part_at text start size)) c.more t, weight_split 9 start (part start size text), length_part start size text c.inside)

-- the same of a field that is found
pub field_short : {text : List ℕ} {start size k at long : ℕ} → start + size ≤ length text → FoundAt text start size (suc k) at long → (get_or text start 0 ≡ 9 → ⊥) →
    long + (k + 2) ≤ size
unfolding part_at
field_short {text} {at = at} {long = long} h f n =
    omega (arith, column_weight (record { inside = h; more = f.more }) n, ap (λ p. length p.bytes) f.field, length_part at long text f.inside)

-- the field of a path's steps
pub column_short : (k : Kind) {text : List ℕ} {start size at long : ℕ} → start + size ≤ length text → get_or text start 0 ≡ letter_of k →
    FoundAt text start size (column_of k) at long → long + 3 ≤ size
unfolding letter_of column_of
column_short P h e f = omega (arith, field_short {k = 1} h f (λ z. omega arith))
column_short W h e f = omega (arith, field_short {k = 5} h f (λ z. omega arith))

-- a line by its first two bytes
pub two_bytes : (text : List ℕ) (start size b : ℕ) → start + size ≤ length text → 2 ≤ size → get_or text start 0 ≡ b →
    part start size text ≡ b ∷ (get_or text (suc start) 0 ∷ part (suc (suc start)) (size - 1 - 1) text)
two_bytes text start size b h s e = rw (part_first start size text (omega arith) h, e, part_first (suc start) (size - 1) text (omega arith) (omega arith))

-- what a line of each sort uses is no more than it allows
module _ (text : List ℕ) (start size : ℕ) (n : Counts) (h : start + size ≤ length text) where
  pub spent_none : Spent (part start size text) n (one_more n 0 0 0 0)
  spent_none = omega arith

  pub spent_segment : 3 ≤ size → get_or text start 0 ≡ 83 → Spent (part start size text) n (one_more n 1 0 0 0)
  unfolding segs_in links_in paths_in starting spare_in
  spent_segment s e =
      let t = two_bytes text start size 83 h (omega arith) e in
      omega (arith, ap segs_in t, ap links_in t, ap paths_in t, length_part start size text h)

  pub spent_link : 6 ≤ size → get_or text start 0 ≡ 76 → Spent (part start size text) n (one_more n 0 1 0 0)
  unfolding segs_in links_in paths_in starting spare_in
  spent_link s e =
      let t = two_bytes text start size 76 h (omega arith) e in
      omega (arith, ap segs_in t, ap links_in t, ap paths_in t, length_part start size text h)

  -- a P or W line leaves its bytes, but one, for its steps
  pub path_spare : (k : Kind) → 2 ≤ size → get_or text start 0 ≡ letter_of k → spare_in (part start size text) + 4 ≡ 4 * size
  unfolding segs_in links_in paths_in starting spare_in letter_of
  path_spare P s e =
      let t = two_bytes text start size 80 h s e in
      omega (arith, ap segs_in t, ap links_in t, ap paths_in t, length_part start size text h)
  path_spare W s e =
      let t = two_bytes text start size 87 h s e in
      omega (arith, ap segs_in t, ap links_in t, ap paths_in t, length_part start size text h)

  pub spent_path : (k : Kind) (m : ℕ) → 2 * m + 3 ≤ size → get_or text start 0 ≡ letter_of k → Spent (part start size text) n (one_more n 0 0 1 m)
  unfolding segs_in links_in paths_in starting spare_in letter_of
  spent_path P m s e =
      let t = two_bytes text start size 80 h (omega arith) e in
      omega (arith, ap segs_in t, ap links_in t, ap paths_in t, length_part start size text h)
  spent_path W m s e =
      let t = two_bytes text start size 87 h (omega arith) e in
      omega (arith, ap segs_in t, ap links_in t, ap paths_in t, length_part start size text h)
