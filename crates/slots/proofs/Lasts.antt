-- The last of some rows that has a property. Assumes nothing.
use Prim.Native.Nat.{ℕ, suc, ◌+◌, ◌≤◌, ◌<◌}
use native.Mathlib.Decide.{ℕ_discrete}
use native.Mathlib.Omega.{arith}
use mathlib.Core.Path.{◌≡◌, refl, ap}
use Rattle.std.specs.Prelude.{Option, None, Some}
use Rattle.gfa_spec.proofs.Options.{None-ne-Some}
use Rattle.work.specs.Rows.{word_of, number_in}
use Rattle.work.proofs.Words.{word_number, word_below}
use Rattle.slots.specs.Slots.{Last}

-- the last that has P is the last that has Q, where the same rows have them
pub last_same : {P Q : ℕ → Type 0} {n : ℕ} {r : Option ℕ} → ((i : ℕ) → i < n → P i → Q i) → ((i : ℕ) → i < n → Q i → P i) → Last P n r → Last Q n r
last_same f g l =
    record {
      on = λ k z. let h = l.on k z in (h.0, f k h.0 h.1);
      later = λ i a b q. l.later i a b (g i b q);
    }

-- of no rows there is none
pub last_none : {P : ℕ → Type 0} → Last P 0 None
last_none = record { on = λ k z. absurd (None-ne-Some k z); later = λ i a b p. absurd (omega arith) }

-- with one row more that has P
pub last_new : {P : ℕ → Type 0} (n : ℕ) → P n → Last P (n + 1) (Some n)
unfolding word_of
last_new n p = record { on = λ k z. let one : k ≡ n = cc in rw one (omega arith, p); later = λ i a b q. absurd (omega arith) }

-- with one row more that has not P
pub last_more : {P : ℕ → Type 0} {n : ℕ} {r : Option ℕ} → (P n → ⊥) → Last P n r → Last P (n + 1) r
last_more {P} {n} {r} d l =
    record {
      on = λ k z. let h = l.on k z in (omega (arith, h.0), h.1);
      later = λ i a b p. go i a b p (ℕ_discrete i n);
    }
  where
    go : (i : ℕ) → word_of r ≤ i → i < n + 1 → P i → Dec (i ≡ n) → ⊥
    go i a b p (yes e) = d (rw e at p)
    go i a b p (no e) = l.later i a (omega arith) p

-- the word of the last is at most the number of rows
pub last_small : {P : ℕ → Type 0} {n : ℕ} (v : ℕ) → Last P n (number_in v) → v ≤ n
last_small {n = n} v l = rw word_number at (word_below (number_in v) n (λ k z. (l.on k z).0))

-- ---- what it is, by the row behind the others

module _ {P : ℕ → Type 0} where
  -- of no rows there is none
  pub last_of_none : {r : Option ℕ} → Last P 0 r → r ≡ None
  last_of_none {r = None} l = refl
  last_of_none {r = Some k} l = absurd (omega (arith, (l.on k refl).0))

  module _ {n : ℕ} {r : Option ℕ} (l : Last P (suc n) r) where
    -- where the row behind the others has it, that is the last
    pub last_top : P n → r ≡ Some n
    unfolding word_of
    last_top p = go r l.on l.later
      where
        go : (r : Option ℕ) → ((k : ℕ) → r ≡ Some k → (k < suc n) × P k) → ((i : ℕ) → word_of r ≤ i → i < suc n → P i → ⊥) → r ≡ Some n
        go None on later = absurd (later n (omega arith) (omega arith) p)
        go (Some k) on later = top k (on k refl).0 (later n) (ℕ_discrete k n)
          where
            top : (k : ℕ) → k < suc n → (word_of (Some k) ≤ n → n < suc n → P n → ⊥) → Dec (k ≡ n) → Some k ≡ Some n
            top k h f (yes e) = ap Some e
            top k h f (no d) = absurd (f (omega arith) (omega arith) p)

    -- and where it has not, it is the last of the others
    pub last_fewer : (P n → ⊥) → Last P n r
    last_fewer d = record { on = λ k z. let h = l.on k z in (less k h.0 h.1 (ℕ_discrete k n), h.1); later = λ i a h q. l.later i a (omega arith) q }
      where
        less : (k : ℕ) → k < suc n → P k → Dec (k ≡ n) → k < n
        less k h p (yes e) = absurd (d (rw e at p))
        less k h p (no e) = omega arith
