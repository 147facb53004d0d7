-- Laws of decimal numbers: a number's digits are those of its tenth, and the last one. Assumes nothing.
use Prim.Native.Nat.{ℕ, zero, suc, ◌+◌, ◌/◌, ◌%◌, ◌≤◌, ◌<◌}
use native.Mathlib.Omega.{arith}
use mathlib.Core.Path.{◌≡◌, sym, ◌∙◌}
use mathlib.Core.List.{List, [], ◌∷◌, ◌++◌}
use borrow.Author.Tests.{lt-ltb, le-ltb}
use Rattle.gfa_spec.specs.Decimal.{digits_to, decimal}
use Rattle.gfa_spec.proofs.Parts.{by_order}

-- one digit
digits_small : (fuel n : ℕ) (tail : List ℕ) → n < 10 → digits_to (suc fuel) n tail ≡ (48 + n) ∷ tail
unfolding digits_to
digits_small fuel n tail h = rw (lt-ltb n 10 h, digits_to)

-- more digits
digits_more : (fuel n : ℕ) (tail : List ℕ) → 10 ≤ n → digits_to (suc fuel) n tail ≡ digits_to fuel (n / 10) ((48 + n % 10) ∷ tail)
unfolding digits_to
digits_more fuel n tail h = rw (le-ltb n 10 h, digits_to)

-- what follows the digits may be put there afterwards, and the fuel does not matter where there is enough
digits_fuel : (f g n : ℕ) (tail more : List ℕ) → n < f → n < g → digits_to f n tail ++ more ≡ digits_to g n (tail ++ more)
digits_fuel zero g n tail more h k = absurd (omega arith)
digits_fuel (suc f) zero n tail more h k = absurd (omega arith)
digits_fuel (suc f) (suc g) n tail more h k = by_order 10 n (long (digits_fuel f g (n / 10) ((48 + n % 10) ∷ tail) more)) short
  where
    short : n < 10 → digits_to (suc f) n tail ++ more ≡ digits_to (suc g) n (tail ++ more)
    short l = rw (digits_small f n tail l, digits_small g n (tail ++ more) l)

    long : (n / 10 < f → n / 10 < g → digits_to f (n / 10) ((48 + n % 10) ∷ tail) ++ more ≡ digits_to g (n / 10) ((48 + n % 10) ∷ (tail ++ more)))
        → 10 ≤ n → digits_to (suc f) n tail ++ more ≡ digits_to (suc g) n (tail ++ more)
    long ih l = rw (digits_more f n tail l, digits_more g n (tail ++ more) l) (ih (omega arith) (omega arith))

-- one digit is the number
pub decimal_small : (n : ℕ) → n < 10 → decimal n ≡ (48 + n) ∷ []
unfolding decimal
decimal_small n h = digits_small n n [] h

-- a number of more digits: those of its tenth, and the last
pub decimal_more : (n : ℕ) → 10 ≤ n → decimal n ≡ decimal (n / 10) ++ ((48 + n % 10) ∷ [])
unfolding decimal
decimal_more n h =
    digits_more n n [] h
    ∙ sym (digits_fuel (suc (n / 10)) n (n / 10) [] ((48 + n % 10) ∷ []) (omega arith) (omega arith))
