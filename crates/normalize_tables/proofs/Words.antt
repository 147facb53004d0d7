-- A new segment and the ends of a link, by their words. Assumes nothing.
use Prim.Native.Nat.{ℕ, zero, suc, ◌+◌, ◌*◌}
use native.Mathlib.Omega.{arith}
use mathlib.Core.Bool.{◌&&◌}
use lib.Dec.{eqb, eqb-zero-suc, eqb-suc-suc}
use Rattle.std.specs.Prelude.{Some}
use Rattle.std.specs.Option.{option_eq}
use mathlib.Core.List.{List}
use mathlib.Core.Path.{◌≡◌}
use lib.ListN.{get_or}
use Rattle.gfa_spec.specs.Runs.{bit}
use Rattle.gfa_spec.proofs.Counting.{bit_set}
use Rattle.work.specs.Rows.{word_of, number_in}
use Rattle.work.proofs.Words.{number_word}
use Rattle.normalize_tables.specs.declared.layout.Layout.{Layout}
use Rattle.normalize_tables.specs.declared.rows.Ends.{Ends}
use Rattle.normalize_tables.specs.declared.rows.NewSegmentWords.{NewSegmentWords}
use Rattle.normalize_tables.specs.News.{segment_words}
use Rattle.normalize_tables.specs.NewByNumber.{ends_no, joins}

-- a new segment, by its words
pub segment_told : (work : List ℕ) (g : Layout) (j : ℕ) (r : NewSegmentWords) → get_or work (g.segs + 4 * j) 0 ≡ r.unit.0 → get_or work (g.segs + 4 * j + 1) 0 ≡ r.count
    → get_or work (g.segs + 4 * j + 2) 0 ≡ r.suffix → segment_words work g j ≡ r
segment_told work g j r u c s = rw (u, c, s)

-- the ends of a link, by its words
pub ends_told : (work : List ℕ) (g : Layout) (i : ℕ) (r : Ends) → get_or work (g.ends + 3 * i) 0 ≡ word_of r.from → get_or work (g.ends + 3 * i + 1) 0 ≡ word_of r.to
    → get_or work (g.ends + 3 * i + 2) 0 ≡ bit r.gone → ends_no work g i ≡ r
ends_told work g i r f t d = rw (f, t, d, number_word r.from, number_word r.to, bit_set)

-- the node of a word, by the word of the node
word_told : (w k : ℕ) → eqb w (k + 1) ≡ option_eq eqb (number_in w) (Some k)
unfolding number_in
word_told zero k = let z : k + 1 ≡ suc k = omega arith in rw z (eqb-zero-suc k)
word_told (suc w) k = let z : k + 1 ≡ suc k = omega arith in rw z (eqb-suc-suc w k)

-- the nodes at the ends of a link, by their words
pub joined_told : (work : List ℕ) (g : Layout) (i from to : ℕ) → (eqb (get_or work (g.ends + 3 * i) 0) (from + 1) && eqb (get_or work (g.ends + 3 * i + 1) 0) (to + 1)) ≡ joins work g i from to
joined_told work g i from to = rw (word_told (get_or work (g.ends + 3 * i) 0) from, word_told (get_or work (g.ends + 3 * i + 1) 0) to)
