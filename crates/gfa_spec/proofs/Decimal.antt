-- Laws of decimal numbers, at any length. Assumes nothing.
use Prim.Native.Nat.{ℕ, zero, suc, ◌+◌, ◌/◌, ◌%◌, ◌≤◌, ◌<◌}
use native.Mathlib.Omega.{arith}
use mathlib.Core.Bool.{true, false}
use mathlib.Core.List.{List, [], ◌∷◌}
use Rattle.std.specs.Prelude.{Some}
use mathlib.Core.Path.{◌≡◌, refl, ap, ◌∙◌}
use lib.Dec.{leb, ltb}
use borrow.Author.Tests.{ltb-true, ltb-false, leb-true, le-leb, ne_eqb}
use Rattle.gfa_spec.specs.Bytes.{all, is_empty}
use Rattle.gfa_spec.specs.Decimal.{digits_to, decimal, is_digit, value_from, largest64, is_numeral, unsigned, number_of}
use Rattle.gfa_spec.proofs.Tests.{by_test, and_left, and_both}

-- ---- the digits of a number

-- 48 and 0 to 9 more are digits
digit : (n : ℕ) → n < 10 → is_digit (48 + n) ≡ true
unfolding is_digit
digit n h = and_both (leb 48 (48 + n)) (leb (48 + n) 57) (le-leb 48 (48 + n) (omega arith)) (le-leb (48 + n) 57 (omega arith))

-- the digits of n in front of a tail spell what the tail spells after n
digits_value : (fuel n : ℕ) (tail : List ℕ) → n < fuel → value_from 0 (digits_to fuel n tail) ≡ value_from n tail
unfolding digits_to value_from
digits_value zero n tail h = absurd (omega arith)
digits_value (suc fuel) n tail h =
    by_test (ltb n 10)
    (λ e. rw (e, digits_to) (ap (λ (m : ℕ). value_from m tail) (omega arith)))
    (λ e. rw (e, digits_to) (digits_value fuel (n / 10) ((48 + n % 10) ∷ tail) (omega (arith, ltb-false n 10 e)) ∙ ap (λ (m : ℕ). value_from m tail) (omega arith)))

-- the digits of n spell n
pub decimal_value : (n : ℕ) → value_from 0 (decimal n) ≡ n
unfolding decimal
decimal_value n = digits_value (suc n) n [] (omega arith) ∙ unfold value_from in refl

-- different numbers have different digits
pub decimal_injective : (m n : ℕ) → decimal m ≡ decimal n → m ≡ n
decimal_injective m n e = cc (decimal_value m, decimal_value n)

-- digits in front of digits are digits
digits_digits : (fuel n : ℕ) (tail : List ℕ) → all is_digit tail ≡ true → all is_digit (digits_to fuel n tail) ≡ true
unfolding digits_to
digits_digits zero n tail h = h
digits_digits (suc fuel) n tail h =
    by_test (ltb n 10)
    (λ e. rw (e, digits_to) (unfold all in and_both (is_digit (48 + n)) (all is_digit tail) (digit n (ltb-true n 10 e)) h))
    (λ e. rw (e, digits_to) (digits_digits fuel (n / 10) ((48 + n % 10) ∷ tail) (unfold all in and_both (is_digit (48 + n % 10)) (all is_digit tail) (digit (n % 10) (omega arith)) h)))

-- a number is written in digits
pub decimal_digits : (n : ℕ) → all is_digit (decimal n) ≡ true
unfolding decimal
decimal_digits n = digits_digits (suc n) n [] (unfold all in refl)

-- digits in front of a byte are not empty
digits_some : (fuel n b : ℕ) (tail : List ℕ) → is_empty (digits_to fuel n (b ∷ tail)) ≡ false
unfolding digits_to is_empty
digits_some zero n b tail = refl
digits_some (suc fuel) n b tail = by_test (ltb n 10) (λ e. rw (e, digits_to)) (λ e. rw (e, digits_to) (digits_some fuel (n / 10) (48 + n % 10) (b ∷ tail)))

-- a number has a digit
pub decimal_some : (n : ℕ) → is_empty (decimal n) ≡ false
unfolding decimal digits_to
decimal_some n = by_test (ltb n 10) (λ e. rw (e, digits_to) (unfold is_empty in refl)) (λ e. rw (e, digits_to) (digits_some n (n / 10) (48 + n % 10) []))

-- ---- reading a number

-- no digit is a +
unsigned_digits : (ds : List ℕ) → all is_digit ds ≡ true → unsigned ds ≡ ds
unfolding unsigned all is_digit
unsigned_digits [] h = refl
unsigned_digits (b ∷ bs) h =
    let low = leb-true 48 b (and_left (leb 48 b) (leb b 57) (and_left (is_digit b) (all is_digit bs) h)) in
    rw (ne_eqb b 43 (λ e. omega arith))

-- a number within 64 bits reads as itself
pub number_decimal : (n : ℕ) → n ≤ largest64 → number_of (decimal n) ≡ Some n
unfolding number_of is_numeral
number_decimal n h =
    rw (unsigned_digits (decimal n) (decimal_digits n), decimal_some n, decimal_digits n, decimal_value n, le-leb n largest64 h)
