-- The number that a string without a sign reads as.
use Rattle.std.specs.Prelude.{ℕ, cond, List, Option, None, Some}
use Rattle.gfa_spec.specs.Decimal.{is_numeral, value_from}

-- none where it reads as no decimal number
unfoldable pub numeral : List ℕ → Option ℕ
numeral ds = cond (is_numeral ds) (Some (value_from 0 ds)) None
