-- Laws of sanitized names: their lengths and bytes. Assumes nothing.
use Prim.Native.Nat.{ℕ, zero, suc, ◌+◌, ◌≤◌, ◌<◌}
use native.Mathlib.Omega.{arith}
use mathlib.Core.Bool.{cond}
use mathlib.Core.List.{List, [], ◌∷◌, map}
use mathlib.Core.Path.{◌≡◌, refl, ◌∙◌}
use lib.ListN.{length, get_or, length-map}
use Rattle.gfa_spec.specs.Bytes.{part}
use Rattle.gfa_spec.specs.Decimal.{is_digit}
use Rattle.gfa_spec.proofs.Parts.{length_part, get_or_part}
use Rattle.gfa_spec.proofs.Tests.{by_test}
use Rattle.normalize_spec.specs.Folding.{is_plain, sanitized}

-- an element of a list to each of which a function was applied
get_or_each : (f : ℕ → ℕ) (l : List ℕ) (i : ℕ) → i < length l → get_or (map f l) i 0 ≡ f (get_or l i 0)
get_or_each f [] i h = absurd (omega arith)
get_or_each f (x ∷ l) zero h = refl
get_or_each f (x ∷ l) (suc i) h = get_or_each f l i (omega arith)

-- a sanitized name is as long as the name
pub length_sanitized : (xs : List ℕ) → length (sanitized xs) ≡ length xs
unfolding sanitized
length_sanitized xs = length-map xs _

-- each byte is the name's, or `_`
pub get_or_sanitized : (xs : List ℕ) (i : ℕ) → i < length xs → get_or (sanitized xs) i 0 ≡ cond (is_plain (get_or xs i 0)) (get_or xs i 0) 95
unfolding sanitized
get_or_sanitized xs i h = get_or_each (λ b. cond (is_plain b) b 95) xs i h

pub get_or_sanitized_part : (from n i : ℕ) (text : List ℕ) → from + n ≤ length text → i < n
    → get_or (sanitized (part from n text)) i 0 ≡ cond (is_plain (get_or text (from + i) 0)) (get_or text (from + i) 0) 95
get_or_sanitized_part from n i text h k =
    let long = length_part from n text h in
    get_or_sanitized (part from n text) i (omega arith) ∙ rw (get_or_part from n i text k)

-- a sanitized name stays as it is
pub sanitized_twice : (xs : List ℕ) → sanitized (sanitized xs) ≡ sanitized xs
unfolding sanitized is_plain is_digit
sanitized_twice [] = refl
sanitized_twice (b ∷ bs) = by_test (is_plain b) (λ e. rw (e, e, sanitized_twice bs)) (λ e. rw (e, sanitized_twice bs))
