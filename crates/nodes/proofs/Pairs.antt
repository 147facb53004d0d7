-- Orientation pairs by their weights: which are there with one link more. Assumes nothing.
use Prim.Native.Nat.{ℕ, ◌<◌}
use native.Mathlib.Decide.{ℕ_discrete}
use native.Mathlib.Omega.{arith}
use mathlib.Core.Bool.{Bool, true, false, cond, ◌&&◌, ◌||◌}
use mathlib.Core.List.{List, [], ◌∷◌, ◌++◌}
use mathlib.Core.Path.{◌≡◌, refl, sym}
use lib.Dec.{eqb}
use borrow.Author.Tests.{eqb-true, ne_eqb}
use Rattle.gfa_spec.specs.Bytes.{same, any}
use Rattle.gfa_spec.specs.Reading.{Link}
use Rattle.gfa_spec.specs.Runs.{bit}
use Rattle.gfa_spec.proofs.Tests.{and_left, and_right, any_append}
use Rattle.gfa_spec.proofs.Counting.{bit_small}
use Rattle.nodes.specs.Table.{weight_of, marked_of, code, is_pair, bits_of}

-- ---- every four tests

unfoldable pub both : (Bool → Bool) → Bool
both p = p true && p false

unfoldable pub each : (Bool → Bool → Bool → Bool → Bool) → Bool
each p = both (λ f. both (λ g. both (λ h. both (λ k. p f g h k))))

of_both : (p : Bool → Bool) (f : Bool) → both p ≡ true → p f ≡ true
unfolding both
of_both p true e = and_left (p true) (p false) e
of_both p false e = and_right (p true) (p false) e

pub of_each : (p : Bool → Bool → Bool → Bool → Bool) (f g h k : Bool) → each p ≡ true → p f g h k ≡ true
unfolding each
of_each p f g h k e =
    of_both (p f g h) k (of_both (λ h. both (p f g h)) h (of_both (λ g. both (λ h. both (p f g h))) g (of_both (λ f. both (λ g. both (λ h. both (p f g h)))) f e)))

-- ---- weights

-- pairs with one more: which is there
OneMore : ℕ → ℕ → Type 0
OneMore a b =
    (f g h k : Bool) → marked_of (code f g h k) a b ≡ code (f || same (43 ∷ 43 ∷ []) (a ∷ b ∷ [])) (g || same (43 ∷ 45 ∷ []) (a ∷ b ∷ [])) (h || same (45 ∷ 43 ∷ []) (a ∷ b ∷ [])) (k || same (45 ∷ 45 ∷ []) (a ∷ b ∷ []))

-- computed for the four pairs
right : ℕ → ℕ → Bool → Bool → Bool → Bool → Bool
right a b f g h k =
    eqb (marked_of (code f g h k) a b)
    (code (f || same (43 ∷ 43 ∷ []) (a ∷ b ∷ [])) (g || same (43 ∷ 45 ∷ []) (a ∷ b ∷ [])) (h || same (45 ∷ 43 ∷ []) (a ∷ b ∷ [])) (k || same (45 ∷ 45 ∷ []) (a ∷ b ∷ [])))

marks_computed : (a b : ℕ) → each (right a b) ≡ true → OneMore a b
unfolding OneMore right
marks_computed a b e f g h k = eqb-true (marked_of (code f g h k) a b)
    (code (f || same (43 ∷ 43 ∷ []) (a ∷ b ∷ [])) (g || same (43 ∷ 45 ∷ []) (a ∷ b ∷ [])) (h || same (45 ∷ 43 ∷ []) (a ∷ b ∷ [])) (k || same (45 ∷ 45 ∷ []) (a ∷ b ∷ [])))
    (of_each (right a b) f g h k e)

-- no other pair is there
pub or_false : (t : Bool) → (t || false) ≡ t
or_false true = refl
or_false false = refl

marks_none : (a b : ℕ) → weight_of a b ≡ 0 → same (43 ∷ 43 ∷ []) (a ∷ b ∷ []) ≡ false → same (43 ∷ 45 ∷ []) (a ∷ b ∷ []) ≡ false → same (45 ∷ 43 ∷ []) (a ∷ b ∷ []) ≡ false → same (45 ∷ 45 ∷ []) (a ∷ b ∷ []) ≡ false → OneMore a b
unfolding OneMore marked_of
marks_none a b w p q r s f g h k = rw (w, p, q, r, s, or_false f, or_false g, or_false h, or_false k)

marks_first : (a b : ℕ) → (a ≡ 43 → ⊥) → (a ≡ 45 → ⊥) → OneMore a b
unfolding weight_of same
marks_first a b n m =
    let w : weight_of a b ≡ 0 = rw (ne_eqb a 43 n, ne_eqb a 45 m) in
    let p = ne_eqb 43 a (λ z. n (sym z)) in
    let q = ne_eqb 45 a (λ z. m (sym z)) in
    marks_none a b w (rw p) (rw p) (rw q) (rw q)

marks_second : (a b : ℕ) → (b ≡ 43 → ⊥) → (b ≡ 45 → ⊥) → OneMore a b
unfolding weight_of same
marks_second a b n m =
    let w : weight_of a b ≡ 0 = rw (ne_eqb b 43 n, ne_eqb b 45 m) (zeros (eqb a 43) (eqb a 45)) in
    let p = ne_eqb 43 b (λ z. n (sym z)) in
    let q = ne_eqb 45 b (λ z. m (sym z)) in
    marks_none a b w (rw p (no (eqb 43 a))) (rw q (no (eqb 43 a))) (rw p (no (eqb 45 a))) (rw q (no (eqb 45 a)))
  where
    zeros : (s t : Bool) → ◌≡◌ {A = ℕ} (cond s 0 (cond t 0 0)) 0
    zeros true t = refl
    zeros false true = refl
    zeros false false = refl

    no : (t : Bool) → (t && false) ≡ false
    no true = refl
    no false = refl

pp : OneMore 43 43
unfolding each both right marked_of code weight_of same bit
pp = marks_computed 43 43 refl

pm : OneMore 43 45
unfolding each both right marked_of code weight_of same bit
pm = marks_computed 43 45 refl

mp : OneMore 45 43
unfolding each both right marked_of code weight_of same bit
mp = marks_computed 45 43 refl

mm : OneMore 45 45
unfolding each both right marked_of code weight_of same bit
mm = marks_computed 45 45 refl

marks : (a b : ℕ) → OneMore a b
marks a b = go (ℕ_discrete a 43) (ℕ_discrete a 45) (ℕ_discrete b 43) (ℕ_discrete b 45)
  where
    go : Dec (a ≡ 43) → Dec (a ≡ 45) → Dec (b ≡ 43) → Dec (b ≡ 45) → OneMore a b
    go (no n) (no m) r s = marks_first a b n m
    go (no n) (yes e) (no p) (no q) = marks_second a b p q
    go (no n) (yes e) (no p) (yes f) = rw (e, f) mm
    go (no n) (yes e) (yes f) s = rw (e, f) mp
    go (yes e) t (no p) (no q) = marks_second a b p q
    go (yes e) t (no p) (yes f) = rw (e, f) pm
    go (yes e) t (yes f) s = rw (e, f) pp

-- ---- the pairs of links

any_last : {A : Type 0} (p : A → Bool) (xs : List A) (x : A) → any p (xs ++ (x ∷ [])) ≡ (any p xs || p x)
unfolding any
any_last p xs x = rw (any_append, or_false (p x))

-- with one link more
pub bits_more : (ls : List Link) (l : Link) → marked_of (bits_of ls) l.from_orientation l.to_orientation ≡ bits_of (ls ++ (l ∷ []))
unfolding bits_of is_pair OneMore
bits_more ls l =
    rw (any_last (is_pair 43 43) ls l, any_last (is_pair 43 45) ls l, any_last (is_pair 45 43) ls l, any_last (is_pair 45 45) ls l)
    (marks l.from_orientation l.to_orientation (any (is_pair 43 43) ls) (any (is_pair 43 45) ls) (any (is_pair 45 43) ls) (any (is_pair 45 45) ls))

-- they are few
pub bits_small : (ls : List Link) → bits_of ls < 16
unfolding bits_of code
bits_small ls =
    omega (
      arith,
      bit_small (any (is_pair 43 43) ls),
      bit_small (any (is_pair 43 45) ls),
      bit_small (any (is_pair 45 43) ls),
      bit_small (any (is_pair 45 45) ls),
    )
