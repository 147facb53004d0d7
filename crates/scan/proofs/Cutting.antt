-- Parts of a text, and how the first separator splits a range of it. Assumes nothing.
use Prim.Native.Nat.{ℕ, suc, ◌+◌, ◌-◌, ◌≤◌, ◌<◌}
use native.Mathlib.Nat.{add-zero, add-suc, suc-add}
use native.Mathlib.Omega.{arith}
use mathlib.Core.Bool.{Bool, true, false, cond}
use mathlib.Core.List.{List, [], ◌∷◌}
use mathlib.Core.Path.{◌≡◌, refl, ap, sym, ◌∙◌}
use lib.Dec.{eqb}
use lib.ListN.{length, take, drop}
use lib.Seq.{slice, slice-cons, slice_empty, take-take, drop-drop}
use Rattle.gfa_spec.specs.Bytes.{Part, part, longer, split}
use Rattle.scan.specs.Places.{before, FirstIs}
use Rattle.gfa_spec.proofs.Located.{drop_front}

-- ---- parts

-- a part of the text is what stands from its start up to its end
pub part_slice : (at n : ℕ) (l : List ℕ) → part at n l ≡ slice at (at + n) l
unfolding part
part_slice at n l = sym (drop_front at n l)

-- what stands from one place up to another is a part
pub part_range : (from to : ℕ) (l : List ℕ) → from ≤ to → part from (to - from) l ≡ slice from to l
part_range from to l h =
    let e : from + (to - from) ≡ to = omega arith in
    part_slice from (to - from) l ∙ rw e

-- the bytes between a part's start and its end, as code cuts them out
pub part_between : (from n : ℕ) (l : List ℕ) → take (from + n - from) (drop from l) ≡ part from n l
unfolding part
part_between from n l =
    let e : from + n - from ≡ n = omega arith in
    rw e

-- ---- the first separator

-- the parts behind the first: none at the end, else those behind the separator
pub behind : ℕ → ℕ → List ℕ → List Part
behind b at [] = []
behind b at (x ∷ xs) = split b (suc at) xs

-- the first part is what stands before the first separator
pub split_first : (b at : ℕ) (s : List ℕ) → split b at s ≡ record { at = at; bytes = take (before b s) s } ∷ behind b (at + before b s) (drop (before b s) s)
unfolding split before behind longer
split_first b at [] = refl
split_first b at (x ∷ xs) = go (eqb x b) (split_first b (suc at) xs)
  where
    go : (t : Bool) → split b (suc at) xs ≡ record { at = suc at; bytes = take (before b xs) xs } ∷ behind b (suc at + before b xs) (drop (before b xs) xs) →
        cond t (record { at = at; bytes = [] } ∷ split b (suc at) xs) (longer at x (split b (suc at) xs)) ≡
        record { at = at; bytes = take (cond t 0 (suc (before b xs))) (x ∷ xs) } ∷ behind b (at + cond t 0 (suc (before b xs))) (drop (cond t 0 (suc (before b xs))) (x ∷ xs))
    go true ih = simp add-zero
    go false ih = rw (ih, add-suc) (simp suc-add)

-- a range cut short is a shorter range
take_slice : (n f t : ℕ) (l : List ℕ) → f + n ≤ t → take n (slice f t l) ≡ slice f (f + n) l
take_slice n f t l h = sym (drop_front f n (take t l)) ∙ ap (drop f) (take-take (f + n) t l h)

module _ {text : List ℕ} {b from to r : ℕ} (h : FirstIs text b from to r) where
  -- the first part of a range, and what is behind it
  pub split_range : split b from (slice from to text) ≡ record { at = from; bytes = slice from r text } ∷ behind b r (slice r to text)
  split_range =
      let e : r ≡ from + before b (slice from to text) = rw (part_range from to text (omega arith)) at h.place in
      let n = before b (slice from to text) in
      let k : from + n ≤ to = omega arith in
      split_first b from (slice from to text) ∙ rw (e, ← drop-drop n from (take to text)) (rw (take_slice n from to text k))

  pub split_last : to ≤ r → split b from (slice from to text) ≡ record { at = from; bytes = slice from r text } ∷ []
  unfolding behind
  split_last k =
      let e : r ≡ to = omega arith in
      split_range ∙ rw (e, slice_empty)

  pub split_more : r < to → to ≤ length text → split b from (slice from to text) ≡ record { at = from; bytes = slice from r text } ∷ split b (suc r) (slice (suc r) to text)
  unfolding behind
  split_more e k = split_range ∙ rw (slice-cons r to text 0 e k)
