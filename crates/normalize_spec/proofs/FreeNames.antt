-- The first free name among those of a unit and a run length: that there is one within the number of taken names, and that it is the
-- name of rule 5. No number is such a name. Assumes nothing.
use Prim.Native.Nat.{ℕ, zero, suc, ◌+◌, ◌≤◌, ◌<◌}
use native.Mathlib.Nat.{add-zero, add-suc, suc-add}
use native.Mathlib.Omega.{arith}
use mathlib.Core.Bool.{true, false}
use mathlib.Core.List.{List, ◌++◌, append-nil}
use mathlib.Core.Path.{◌≡◌, refl, sym, ap, ◌∙◌}
use lib.ListN.{length}
use Rattle.gfa_spec.specs.Bytes.{bytes, same, any, all}
use Rattle.gfa_spec.specs.Decimal.{decimal, is_digit}
use Rattle.gfa_spec.proofs.Tests.{clash, refute, same_equal, all_append, and_left, and_right}
use Rattle.gfa_spec.proofs.Decimal.{decimal_digits}
use Rattle.normalize_spec.specs.Folding.{sanitized, base_name, suffixed, free_name}
use Rattle.normalize_spec.specs.NewNames.{suffix, new_name, name_tail}
use Rattle.normalize_spec.proofs.Ids.{candidate, pigeonhole}
use Rattle.normalize_spec.proofs.NewNames.{name_parts, name_same}

-- the names of a unit and a run length with the first s suffixes are all taken: there are no more of them than taken names
pub some_free : (taken : List (List ℕ)) (unit : List ℕ) (count s : ℕ) → ((j : ℕ) → j < s → any (same (new_name unit count j)) taken ≡ true) → s ≤ length taken
some_free taken unit count s h = pigeonhole (new_name unit count) (λ i j e. (name_same unit unit count count i j e).2) s taken h

-- the first free name behind d taken ones
suffixed_first : (fuel : ℕ) (taken : List (List ℕ)) (base : List ℕ) (k d : ℕ) → d < fuel → ((j : ℕ) → j < d → any (same (candidate base (k + j))) taken ≡ true)
    → any (same (candidate base (k + d))) taken ≡ false → suffixed fuel taken base k ≡ candidate base (k + d)
unfolding suffixed candidate
suffixed_first zero taken base k d l h f = absurd (omega arith)
suffixed_first (suc fuel) taken base k zero l h f = rw add-zero (rw (rw add-zero at f, suffixed))
suffixed_first (suc fuel) taken base k (suc d) l h f =
    let next : k + suc d ≡ suc k + d = omega arith in
    rw (rw add-zero at (h 0 (omega arith)), suffixed)
    (suffixed_first fuel taken base (suc k) d (omega arith) (λ j m. rw (suc-add, ← add-suc) (h (suc j) (omega arith))) (rw next at f) ∙ ap (candidate base) (omega arith))

-- the first of these names that is not taken is the free name of rule 5
pub first_free : (taken : List (List ℕ)) (unit : List ℕ) (count s : ℕ) → ((j : ℕ) → j < s → any (same (new_name unit count j)) taken ≡ true)
    → any (same (new_name unit count s)) taken ≡ false → free_name taken (base_name unit count) ≡ new_name unit count s
unfolding free_name new_name suffix candidate
first_free taken unit count zero h f = rw append-nil (rw (rw append-nil at f))
first_free taken unit count (suc s) h f =
    let few = some_free taken unit count (suc s) h in
    let after : (j : ℕ) → 1 + j ≡ suc j = λ j. omega arith in
    rw (rw append-nil at (h 0 (omega arith)))
    (suffixed_first (suc (length taken)) taken (base_name unit count) 1 s (omega arith) (λ j l. rw (after j) (h (suc j) (omega arith))) (rw (after s) f) ∙ rw (after s))

-- the word in these names is no number
word_digits : all is_digit (bytes "_selfloop_run") ≡ false
unfolding all bytes is_digit
word_digits = refl

-- a number is none of these names: it has only digits
pub number_not_name : (n : ℕ) (unit : List ℕ) (count k : ℕ) → same (decimal n) (new_name unit count k) ≡ false
unfolding name_tail
number_not_name n unit count k =
    refute (same (decimal n) (new_name unit count k))
    (λ h. let digits = ap (all is_digit) (sym (same_equal (decimal n) (new_name unit count k) h ∙ name_parts unit count k)) ∙ decimal_digits n in
    let behind = and_right (all is_digit (sanitized unit)) (all is_digit (name_tail count k)) (rw all_append at digits) in
    let word = and_left (all is_digit (bytes "_selfloop_run")) (all is_digit (decimal count ++ suffix k)) (rw all_append at behind) in
    clash word word_digits)
