-- Laws of byte strings compared: whether they are the same, and the last place where they differ. Assumes nothing.
use Prim.Native.Nat.{ℕ, zero, suc, ◌≤◌, ◌<◌}
use native.Mathlib.Decide.{ℕ_discrete}
use native.Mathlib.Omega.{arith}
use mathlib.Core.Bool.{Bool, true, false, ◌&&◌, and-false}
use mathlib.Core.List.{List, [], ◌∷◌}
use Rattle.std.specs.Prelude.{Option, None, Some}
use mathlib.Core.Path.{◌≡◌, refl, ap}
use lib.Dec.{eqb}
use lib.ListN.{length, get_or}
use lib.Seq.{ext_get_or}
use borrow.Author.Tests.{eqb-true, eqb-false}
use Rattle.gfa_spec.specs.Bytes.{same, last_place, last_difference, star, AgreeFrom, LastAt, DifferenceSays}
use Rattle.gfa_spec.proofs.Tests.{same_equal, refute}
use Rattle.gfa_spec.proofs.Parts.{by_order}

-- ---- the same or not

-- strings of different lengths
pub same_length : (xs ys : List ℕ) → (length xs ≡ length ys → ⊥) → same xs ys ≡ false
unfolding same
same_length [] [] h = absurd (h refl)
same_length [] (y ∷ ys) h = refl
same_length (x ∷ xs) [] h = refl
same_length (x ∷ xs) (y ∷ ys) h = rw (same_length xs ys (λ e. h (ap suc e)), and-false (eqb x y))

-- one byte, and `*`
pub same_star : (b : ℕ) → same (b ∷ []) star ≡ eqb b 42
unfolding same star
same_star b = go (eqb b 42)
  where
    go : (t : Bool) → (t && true) ≡ t
    go true = refl
    go false = refl

-- a byte of equal strings
byte_equal : {xs ys : List ℕ} (i : ℕ) → xs ≡ ys → get_or xs i 0 ≡ get_or ys i 0
byte_equal i e = ap (λ s. get_or s i 0) e

-- strings with one byte that differs are not the same
pub same_differ : (xs ys : List ℕ) (i : ℕ) → (get_or xs i 0 ≡ get_or ys i 0 → ⊥) → same xs ys ≡ false
same_differ xs ys i d = refute (same xs ys) (λ t. d (byte_equal i (same_equal xs ys t)))

-- ---- two strings that agree from a place on

module _ {xs ys : List ℕ} where
  module _ {i j : ℕ} (next : suc i ≡ j) (s : AgreeFrom xs ys j) where
    -- one byte more
    pub agree_back : get_or xs i 0 ≡ get_or ys i 0 → AgreeFrom xs ys i
    agree_back e = record { bytes = λ k l m. go k l m (ℕ_discrete k i) }
      where
        go : (k : ℕ) → i ≤ k → k < length xs → Dec (k ≡ i) → get_or xs k 0 ≡ get_or ys k 0
        go k l m (yes q) = rw q e
        go k l m (no q) = s.bytes k (omega arith) m

    -- a byte that differs is the last
    pub last_back : j ≤ length xs → (get_or xs i 0 ≡ get_or ys i 0 → ⊥) → LastAt xs ys i
    last_back h d = record { inside = omega arith; differ = d; behind = record { bytes = λ k l m. s.bytes k (omega arith) m } }

  -- all of them: the strings are equal
  pub agree_all : length xs ≡ length ys → AgreeFrom xs ys 0 → xs ≡ ys
  agree_all long s = ext_get_or 0 xs ys long (λ k m. s.bytes k (omega arith) m)

-- ---- the definition, both ways

-- behind the first bytes
agree_cons : {x y : ℕ} {xs ys : List ℕ} {i : ℕ} → AgreeFrom xs ys i → AgreeFrom (x ∷ xs) (y ∷ ys) (suc i)
agree_cons {x} {y} {xs} {ys} {i} s = record { bytes = go }
  where
    go : (k : ℕ) → suc i ≤ k → k < length (x ∷ xs) → get_or (x ∷ xs) k 0 ≡ get_or (y ∷ ys) k 0
    go zero l m = absurd (omega arith)
    go (suc k) l m = s.bytes k (omega arith) (omega arith)

-- equal strings agree
pub agree_equal : {xs ys : List ℕ} → xs ≡ ys → AgreeFrom xs ys 0
agree_equal e = record { bytes = λ k l m. byte_equal k e }

-- what the definition finds is the last place where they differ, or they are equal
pub last_says : (xs ys : List ℕ) → length xs ≡ length ys → DifferenceSays xs ys (last_difference xs ys)
unfolding last_difference last_place
last_says [] [] h = refl
last_says [] (y ∷ ys) h = absurd (omega arith)
last_says (x ∷ xs) [] h = absurd (omega arith)
last_says (x ∷ xs) (y ∷ ys) h = go (last_difference xs ys) (last_says xs ys (omega arith))
  where
    first : (xs ≡ ys) → (b : Bool) → eqb x y ≡ b → DifferenceSays (x ∷ xs) (y ∷ ys) (last_place b None)
    first e true q = cc (eqb-true x y q, e)
    first e false q = record { inside = omega arith; differ = eqb-false x y q; behind = agree_cons (agree_equal e) }

    go : (r : Option ℕ) → DifferenceSays xs ys r → DifferenceSays (x ∷ xs) (y ∷ ys) (last_place (eqb x y) r)
    go None e = first e (eqb x y) refl
    go (Some i) s = record { inside = omega (arith, s.inside); differ = s.differ; behind = agree_cons s.behind }

-- there is one such answer
one_last : (xs ys : List ℕ) (r q : Option ℕ) → DifferenceSays xs ys r → DifferenceSays xs ys q → r ≡ q
one_last xs ys None None s t = refl
one_last xs ys None (Some j) s t = absurd (t.differ (byte_equal j s))
one_last xs ys (Some i) None s t = absurd (s.differ (byte_equal i t))
one_last xs ys (Some i) (Some j) s t = ap Some (go (ℕ_discrete i j))
  where
    go : Dec (i ≡ j) → i ≡ j
    go (yes e) = e
    go (no e) =
        by_order i j
        (λ l. absurd (t.differ (s.behind.bytes j (omega arith) t.inside)))
        (λ l. absurd (s.differ (t.behind.bytes i (omega arith) s.inside)))

-- so whatever is such an answer is the definition's
pub says_last : (xs ys : List ℕ) (r : Option ℕ) → length xs ≡ length ys → DifferenceSays xs ys r → r ≡ last_difference xs ys
says_last xs ys r h s = one_last xs ys r (last_difference xs ys) s (last_says xs ys h)
