-- Counts, bits and numbers that may be missing: laws that several crates use. Assumes nothing.
use Prim.Native.Nat.{ℕ, suc, ◌+◌, ◌≤◌}
use native.Mathlib.Omega.{arith}
use mathlib.Core.Bool.{Bool, true, false}
use mathlib.Core.List.{List, [], ◌∷◌, ◌++◌}
use Rattle.std.specs.Prelude.{Option, option_map, None, Some}
use mathlib.Core.Path.{◌≡◌, refl}
use lib.Dec.{eqb}
use Rattle.gfa_spec.specs.Bytes.{count}
use Rattle.gfa_spec.specs.Runs.{bit}
use Rattle.gfa_spec.proofs.Tests.{by_test}
use mir.Val.{bool_byte}

-- ---- bits

pub bit_small : (t : Bool) → bit t ≤ 1
unfolding bit
bit_small true = omega arith
bit_small false = omega arith

-- a bit that is set tells the test
pub bit_set : (t : Bool) → eqb (bit t) 1 ≡ t
unfolding bit
bit_set true = refl
bit_set false = refl

-- ---- counts

module _ {A : Type 0} (p : A → Bool) where
  pub count_cons : (x : A) (xs : List A) → count p (x ∷ xs) ≡ bit (p x) + count p xs
  unfolding count bit
  count_cons x xs = by_test (p x) (λ e. rw e (omega arith)) (λ e. rw e (omega arith))

  pub count_one : (x : A) → count p (x ∷ []) ≡ bit (p x)
  unfolding count bit
  count_one x = by_test (p x) (λ e. rw e) (λ e. rw e)

  pub count_append : (xs ys : List A) → count p (xs ++ ys) ≡ count p xs + count p ys
  unfolding count
  count_append [] ys = omega arith
  count_append (x ∷ xs) ys = rw (count_cons x (xs ++ ys), count_cons x xs, count_append xs ys) (omega arith)

-- ---- numbers that may be missing

pub map_none : (o : Option ℕ) → option_map suc o ≡ None → o ≡ None
map_none None e = refl
map_none (Some k) e = let z : ◌≡◌ {A = ℕ} 0 1 = cc in absurd (omega arith)

pub map_some : (o : Option ℕ) (k : ℕ) → option_map suc o ≡ Some k → (j : ℕ) × (o ≡ Some j) × (k ≡ suc j)
map_some None k e = let z : ◌≡◌ {A = ℕ} 0 1 = cc in absurd (omega arith)
map_some (Some j) k e = (j, refl, cc)

-- ---- a test as a number

-- as the code has it
pub bit_byte : (b : Bool) {x : ℕ} → x ≡ bool_byte b → (x ≡ bit b) × (x ≤ 1)
unfolding bit
bit_byte true e = (e, omega arith)
bit_byte false e = (e, omega arith)
