-- The sum of a name: of two pieces, modulo 2^32, and of recorded names. Assumes nothing.
use Prim.Native.Nat.{ℕ, ◌+◌, ◌*◌, ◌%◌, ◌<◌}
use native.Mathlib.Nat.{mod-add-mod}
use native.Mathlib.Numerals.{add-one}
use mathlib.Core.Bool.{Bool}
use mathlib.Core.List.{List, [], ◌∷◌, ◌++◌}
use mathlib.Core.Path.{◌≡◌, refl, sym, ap, ◌∙◌}
use lib.Dec.{T, eqb}
use lib.ListN.{length, get_or, take}
use lib.Seq.{take-suc}
use Rattle.std.proofs.lemmas.Nat.{mul-mod_second}
use Rattle.gfa_spec.specs.Bytes.{bytes, all}
use Rattle.gfa_spec.specs.Sums.{stepped, sum_from, name_sum, exact_from}
use Rattle.gfa_spec.proofs.Computing.{computing}

-- ---- pieces

-- the sum of two pieces is that of the second from that of the first on
pub sum_append : (h : ℕ) (xs ys : List ℕ) → sum_from h (xs ++ ys) ≡ sum_from (sum_from h xs) ys
unfolding sum_from
sum_append h [] ys = refl
sum_append h (x ∷ xs) ys = sum_append (stepped h x) xs ys

-- the sum of one byte more of a string
pub sum_next : (h i : ℕ) (s : List ℕ) → i < length s → sum_from h (take (i + 1) s) ≡ stepped (sum_from h (take i s)) (get_or s i 0)
unfolding sum_from
sum_next h i s l = rw (add-one, take-suc s i 0 l) (sum_append h (take i s) (get_or s i 0 ∷ []))

-- ---- modulo 2^32

-- one byte more, of a sum that ran over
stepped_modulo : (h b : ℕ) → stepped (h % 4294967296) b ≡ (33 * h + b) % 4294967296
unfolding stepped
stepped_modulo h b =
    sym (mod-add-mod (33 * (h % 4294967296)) 4294967296 b) ∙ ap (λ x. (x + b) % 4294967296) (mul-mod_second 33 h 4294967296) ∙ mod-add-mod (33 * h) 4294967296 b

-- the sum that ran over is the exact one modulo 2^32, of a string of any length, the empty one included
pub sum_modulo : (h : ℕ) (s : List ℕ) → sum_from (h % 4294967296) s ≡ exact_from h s % 4294967296
unfolding sum_from exact_from
sum_modulo h [] = refl
sum_modulo h (b ∷ bs) = rw (stepped_modulo h b) (sum_modulo (33 * h + b) bs)

pub name_sum_modulo : (s : List ℕ) → name_sum s ≡ exact_from 5381 s % 4294967296
unfolding name_sum
name_sum_modulo s = sum_modulo 5381 s

-- ---- recorded

-- sums of names, the last one run over
pub table : List Bool
table =
    eqb (name_sum (bytes "")) 5381
    ∷ eqb (name_sum (bytes "1")) 177622
    ∷ eqb (name_sum (bytes "aa")) 5863207
    ∷ eqb (name_sum (bytes "Zz")) 5863001
    ∷ eqb (name_sum (bytes "zzzzzzz")) 3631913211
    ∷ []

pub sums_recorded : T (all (λ b. b) table)
unfolding computing table
sums_recorded = tt
