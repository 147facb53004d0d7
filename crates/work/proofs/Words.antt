-- The words for numbers that may be missing. Assumes nothing.
use Prim.Native.Nat.{ℕ, zero, suc, ◌+◌, ◌-◌, ◌≤◌, ◌<◌}
use native.Mathlib.Omega.{arith}
use mathlib.Core.Path.{◌≡◌, refl}
use Rattle.std.specs.Prelude.{Option, None, Some, SomeIff}
use Rattle.work.specs.Rows.{number_in, word_of}

-- the number of a number's word
pub number_word : (o : Option ℕ) → number_in (word_of o) ≡ o
unfolding number_in word_of
number_word None = refl
number_word (Some k) = refl

-- and the word of a word's number
pub word_number : (w : ℕ) → word_of (number_in w) ≡ w
unfolding number_in word_of
word_number zero = refl
word_number (suc k) = refl

-- the word of number k
pub word_some : (o : Option ℕ) (k : ℕ) → o ≡ Some k → word_of o ≡ k + 1
unfolding word_of
word_some o k e = rw e (omega arith)

-- the word of a number below k
pub word_below : (o : Option ℕ) (k : ℕ) → ((i : ℕ) → o ≡ Some i → i < k) → word_of o ≤ k
unfolding word_of
word_below None k h = omega arith
word_below (Some i) k h = let l = h i refl in omega arith

-- a number is a word less one
pub number_told : (o : Option ℕ) (w : ℕ) → SomeIff o (1 ≤ w) (w - 1) → o ≡ number_in w
unfolding number_in
number_told None zero s = refl
number_told None (suc k) s = absurd (s (omega arith))
number_told (Some j) zero s = absurd (omega (arith, s.0))
number_told (Some j) (suc k) s = let z : j ≡ k = omega (arith, s.1) in rw z
