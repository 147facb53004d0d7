-- Decimal numbers as text. Document 01, "Folding", rule 5, and "The report's lines".
use Rattle.std.specs.Prelude.{ℕ, zero, suc, ◌+◌, ◌-◌, ◌*◌, ◌/◌, ◌%◌, Bool, true, false, cond, not, ◌&&◌, List, [], ◌∷◌, eqb, leb, ltb}
use Rattle.std.specs.Prelude.{Option, None, Some}
use Rattle.gfa_spec.specs.Bytes.{all, is_empty}

-- ---- writing

-- the digits of n in front of `tail`; n has at most `fuel` digits
unfoldable pub digits_to : ℕ → ℕ → List ℕ → List ℕ
digits_to zero n tail = tail
digits_to (suc fuel) n tail = elim (ltb n 10) [ true ↦ (48 + n) ∷ tail | false ↦ digits_to fuel (n / 10) ((48 + n % 10) ∷ tail) ]

-- n in decimal, with no leading zero
unfoldable pub decimal : ℕ → List ℕ
decimal n = digits_to (suc n) n []

-- ---- reading

-- 0 to 9
unfoldable pub is_digit : ℕ → Bool
is_digit b = leb 48 b && leb b 57

-- the number that digits spell, after a number n
unfoldable pub value_from : ℕ → List ℕ → ℕ
value_from n [] = n
value_from n (b ∷ bs) = value_from (n * 10 + (b - 48)) bs

-- the largest 64-bit number (rule 5)
unfoldable pub largest64 : ℕ
largest64 = 18446744073709551615

-- digits, at least one, leading zeros allowed, of a number within 64 bits
unfoldable pub is_numeral : List ℕ → Bool
is_numeral ds = not (is_empty ds) && all is_digit ds && leb (value_from 0 ds) largest64

-- without one leading +
unfoldable pub unsigned : List ℕ → List ℕ
unsigned [] = []
unsigned (b ∷ bs) = cond (eqb b 43) bs (b ∷ bs)

-- the number that a string reads as (rule 5), none where it reads as no decimal number
unfoldable pub number_of : List ℕ → Option ℕ
number_of s = cond (is_numeral (unsigned s)) (Some (value_from 0 (unsigned s))) None
