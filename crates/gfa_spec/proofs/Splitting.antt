-- A string that is joined is split into its parts again, and the other way round. Assumes nothing.
use Prim.Native.Nat.{ℕ, suc, ◌+◌, ◌-◌, ◌≤◌}
use native.Mathlib.Nat.{add-zero}
use native.Mathlib.Omega.{arith}
use mathlib.Core.Bool.{Bool, true, false, cond}
use mathlib.Core.List.{List, [], ◌∷◌, ◌++◌, map, append_assoc}
use mathlib.Core.Path.{◌≡◌, refl, ap, ◌∙◌}
use lib.Dec.{eqb}
use lib.ListN.{length}
use borrow.Author.Tests.{eq-eqb, eqb-true}
use Rattle.gfa_spec.specs.Bytes.{sum, join, join_with, tabbed, end_line, ended, Part, bytes_of, longer, split, part, prepend, between, Each}
use Rattle.gfa_spec.proofs.Tests.{cond_ap}
use Rattle.gfa_spec.proofs.Each.{Lacks, each_implies, each_always}

-- ---- the parts without their places

-- a byte more, without the place
longer_prepend : (at c : ℕ) (ps : List Part) → map bytes_of (longer at c ps) ≡ prepend c (map bytes_of ps)
unfolding bytes_of longer prepend
longer_prepend at c [] = refl
longer_prepend at c (p ∷ ps) = refl

-- the bytes of the parts do not depend on the place of the string
pub split_between : (b at : ℕ) (s : List ℕ) → map bytes_of (split b at s) ≡ between b s
unfolding bytes_of split between
split_between b at [] = refl
split_between b at (c ∷ s) = rw (cond_ap (map bytes_of), longer_prepend, split_between b (suc at) s)

-- ---- what is joined is split again

-- the first part ends at the first separator
between_front : (b : ℕ) (x s : List ℕ) → Lacks b x → between b (x ++ (b ∷ s)) ≡ x ∷ between b s
unfolding between prepend
between_front b [] s h = rw (eq-eqb b b refl)
between_front b (c ∷ x) s h = rw (h.0, between_front b x s h.1)

-- a string without separator is one part
between_last : (b : ℕ) (x : List ℕ) → Lacks b x → between b x ≡ x ∷ []
unfolding between prepend
between_last b [] h = refl
between_last b (c ∷ x) h = rw (h.0, between_last b x h.1)

-- strings that were joined
between_join : (b : ℕ) (x : List ℕ) (xs : List (List ℕ)) → Each (Lacks b) (x ∷ xs) → between b (join_with b (x ∷ xs)) ≡ x ∷ xs
unfolding join_with
between_join b x [] h = between_last b x h.0
between_join b x (y ∷ ys) h = between_front b x (join_with b (y ∷ ys)) h.0 ∙ ap (λ ps. x ∷ ps) (between_join b y ys h.1)

-- the law of joining and splitting, at any separator
pub split_join : (b at : ℕ) (x : List ℕ) (xs : List (List ℕ)) → Each (Lacks b) (x ∷ xs) → map bytes_of (split b at (join_with b (x ∷ xs))) ≡ x ∷ xs
split_join b at x xs h = split_between b at (join_with b (x ∷ xs)) ∙ between_join b x xs h

-- the fields of a line that was written with tabs
pub fields_tabbed : (at : ℕ) (f : List ℕ) (fs : List (List ℕ)) → Each (Lacks 9) (f ∷ fs) → map bytes_of (split 9 at (tabbed (f ∷ fs))) ≡ f ∷ fs
unfolding tabbed
fields_tabbed at f fs h = split_join 9 at f fs h

-- lines that were ended
pub between_ended : (ls : List (List ℕ)) → Each (Lacks 10) ls → between 10 (ended ls) ≡ ls ++ ([] ∷ [])
unfolding between ended join end_line
between_ended [] h = refl
between_ended (l ∷ ls) h = rw (append_assoc, between_front 10 l (ended ls) h.0, between_ended ls h.1)

-- lines that were ended are split again, with one empty string behind them
pub split_ended : (at : ℕ) (ls : List (List ℕ)) → Each (Lacks 10) ls → map bytes_of (split 10 at (ended ls)) ≡ ls ++ ([] ∷ [])
split_ended at ls h = split_between 10 at (ended ls) ∙ between_ended ls h

-- ---- what is split is joined again

-- the first part stands at `at`
abbrev Starts : ℕ → List Part → Type 0
Starts at [] = ⊥
Starts at (p ∷ ps) = p.at ≡ at

-- the place of a part with a byte more
longer_starts : (at c : ℕ) (ps : List Part) → Starts at (longer at c ps)
unfolding longer
longer_starts at c [] = refl
longer_starts at c (p ∷ ps) = refl

-- the first part begins where the string begins
split_starts : (b at : ℕ) (s : List ℕ) → Starts at (split b at s)
unfolding split
split_starts b at [] = refl
split_starts b at (c ∷ s) = go (eqb c b) (split b (suc at) s)
  where
    go : (t : Bool) (ps : List Part) → Starts at (cond t (record { at = at; bytes = [] } ∷ ps) (longer at c ps))
    go true ps = refl
    go false ps = longer_starts at c ps

-- induction over the parts of a string: the empty string, a separator in front, another byte in front
module _ (b : ℕ) (P : ℕ → List ℕ → List Part → Type 0)
    (last : (at : ℕ) → P at [] (record { at = at; bytes = [] } ∷ []))
    (gap : (at : ℕ) (s : List ℕ) (p : Part) (ps : List Part) → p.at ≡ suc at → P (suc at) s (p ∷ ps)
    → P at (b ∷ s) (record { at = at; bytes = [] } ∷ (p ∷ ps)))
    (more : (at c : ℕ) (s : List ℕ) (p : Part) (ps : List Part) → eqb c b ≡ false → p.at ≡ suc at → P (suc at) s (p ∷ ps)
    → P at (c ∷ s) (record { at = at; bytes = c ∷ p.bytes } ∷ ps)) where
  -- one byte more in front
  split_case : (at c : ℕ) (s : List ℕ) (ps : List Part) (t : Bool) → eqb c b ≡ t → Starts (suc at) ps → P (suc at) s ps
      → P at (c ∷ s) (cond t (record { at = at; bytes = [] } ∷ ps) (longer at c ps))
  unfolding longer
  split_case at c s [] t e f h = absurd f
  split_case at c s (p ∷ ps) true e f h = rw (eqb-true c b e) (gap at s p ps f h)
  split_case at c s (p ∷ ps) false e f h = more at c s p ps e f h

  -- the induction
  pub split_ind : (at : ℕ) (s : List ℕ) → P at s (split b at s)
  unfolding split
  split_ind at [] = last at
  split_ind at (c ∷ s) = split_case at c s (split b (suc at) s) (eqb c b) refl (split_starts b (suc at) s) (split_ind (suc at) s)

-- a byte in front of the first string is a byte in front of all
pub join_with_cons : (b c : ℕ) (x : List ℕ) (xs : List (List ℕ)) → join_with b ((c ∷ x) ∷ xs) ≡ c ∷ join_with b (x ∷ xs)
unfolding join_with
join_with_cons b c x [] = refl
join_with_cons b c x (y ∷ ys) = refl

-- the parts joined are the string
pub join_split : (b at : ℕ) (s : List ℕ) → join_with b (map bytes_of (split b at s)) ≡ s
unfolding join_with bytes_of
join_split b at s =
    split_ind b (λ at s ps. join_with b (map bytes_of ps) ≡ s)
    (λ at. refl)
    (λ at s p ps f h. ap (λ r. b ∷ r) h)
    (λ at c s p ps e f h. join_with_cons b c p.bytes (map bytes_of ps) ∙ ap (λ r. c ∷ r) h)
    at s

-- the lengths of the parts, and a byte between each two
pub length_split : (b at : ℕ) (s : List ℕ) → sum (map length (map bytes_of (split b at s))) + length (split b at s) ≡ suc (length s)
unfolding sum bytes_of
length_split b at s =
    split_ind b (λ at s ps. sum (map length (map bytes_of ps)) + length ps ≡ suc (length s))
    (λ at. refl)
    (λ at s p ps f h. omega arith)
    (λ at c s p ps e f h. omega arith)
    at s

-- a string has at least one part
pub split_some : (b at : ℕ) (s : List ℕ) → 1 ≤ length (split b at s)
split_some b at s = split_ind b (λ at s ps. 1 ≤ length ps) (λ at. omega arith) (λ at s p ps f h. omega arith) (λ at c s p ps e f h. omega arith) at s

-- so the lengths and one less than the number of parts make up the length
pub length_split_less : (b at : ℕ) (s : List ℕ) → sum (map length (map bytes_of (split b at s))) + (length (split b at s) - 1) ≡ length s
length_split_less b at s = omega (arith, length_split b at s, split_some b at s)

-- a fact of the bytes of a string, but for the separator, is a fact of the bytes of its parts
pub parts_each : (P : ℕ → Type 0) (b at : ℕ) (s : List ℕ) → Each (λ c. eqb c b ≡ false → P c) s → Each (λ p. Each P p.bytes) (split b at s)
parts_each P b at s =
    split_ind b (λ at s ps. Each (λ c. eqb c b ≡ false → P c) s → Each (λ p. Each P p.bytes) ps)
    (λ at h. (tt, tt))
    (λ at s p ps f k h. (tt, k h.1))
    (λ at c s p ps e f k h. let r = k h.1 in ((h.0 e, r.0), r.1))
    at s

-- the parts lack the separator
pub parts_lack : (b at : ℕ) (s : List ℕ) → Each (λ p. Lacks b p.bytes) (split b at s)
parts_lack b at s = parts_each (λ c. eqb c b ≡ false) b at s (each_always (λ c e. e) s)

-- and have what each byte of the string has
pub parts_bytes : (P : ℕ → Type 0) (b at : ℕ) (s : List ℕ) → Each P s → Each (λ p. Each P p.bytes) (split b at s)
parts_bytes P b at s h = parts_each P b at s (each_implies (λ c k e. k) s h)

-- ---- where the parts stand

-- each part begins one byte behind the end of the part before it
abbrev pub Placed : ℕ → List Part → Type 0
Placed at [] = Unit {0}
Placed at (p ∷ ps) = (p.at ≡ at) × Placed (suc (at + length p.bytes)) ps

-- the parts stand one behind the other
pub split_placed : (b at : ℕ) (s : List ℕ) → Placed at (split b at s)
split_placed b at s =
    split_ind b (λ at s ps. Placed at ps)
    (λ at. (refl, tt))
    (λ at s p ps f h. (refl, rw add-zero h))
    (λ at c s p ps e f h. let n : suc (at + suc (length p.bytes)) ≡ suc (suc at + length p.bytes) = omega arith in (refl, rw n h.1))
    at s

-- the part p of the string s, whose first byte is at `at`
pub record Within (at : ℕ) (s : List ℕ) (p : Part) : Type 0 where
  pub begins : at ≤ p.at
  pub ends : p.at + length p.bytes ≤ at + length s
  pub holds : part (p.at - at) (length p.bytes) s ≡ p.bytes

-- a part stands in the string with a byte more in front
pub within_more : (at c : ℕ) (s : List ℕ) (p : Part) → Within (suc at) s p → Within at (c ∷ s) p
unfolding part
within_more at c s p w =
    let n : p.at - at ≡ suc (p.at - suc at) = omega arith in
    record { begins = omega arith; ends = omega arith; holds = rw n w.holds }

-- no byte, at the front
pub within_none : (at : ℕ) (s : List ℕ) → Within at s (record { at = at; bytes = [] })
unfolding part
within_none at s = record { begins = omega arith; ends = omega arith; holds = refl }

-- a part at the front, with a byte before it
pub within_front : (at c : ℕ) (s : List ℕ) (p : Part) → p.at ≡ suc at → Within (suc at) s p → Within at (c ∷ s) (record { at = at; bytes = c ∷ p.bytes })
unfolding part
within_front at c s p f w =
    let n : p.at - suc at ≡ 0 = omega arith in
    let z : at - at ≡ 0 = omega arith in
    record { begins = omega arith; ends = omega arith; holds = rw z (ap (λ r. c ∷ r) (rw n at w.holds)) }

-- each part's place and bytes are where they stand in the string
pub split_within : (b at : ℕ) (s : List ℕ) → Each (Within at s) (split b at s)
split_within b at s =
    split_ind b (λ at s ps. Each (Within at s) ps)
    (λ at. (within_none at [], tt))
    (λ at s p ps f h. (within_none at (b ∷ s), each_implies (within_more at b s) (p ∷ ps) h))
    (λ at c s p ps e f h. (within_front at c s p f h.0, each_implies (within_more at c s) ps h.1))
    at s
