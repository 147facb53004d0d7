-- Values that are read, or refused. Assumes nothing.
use Prim.Native.Nat.{ℕ}
use native.Mathlib.Omega.{arith}
use mathlib.Core.Path.{◌≡◌, refl}
use Rattle.gfa_spec.specs.Reading.{Read, refused, accepted, map_read}

-- a refusal is no acceptance
pub not_accepted : {A : Type 0} {n : ℕ} {a : A} → refused n ≡ accepted a → ⊥
not_accepted e = let z : ◌≡◌ {A = ℕ} 0 1 = cc in omega arith

-- a value read under a function was read
pub map_read_accepted : {A B : Type 0} (f : A → B) (r : Read A) (b : B) → map_read f r ≡ accepted b → (a : A) × (r ≡ accepted a) × (f a ≡ b)
unfolding map_read
map_read_accepted f (refused n) b e = absurd (not_accepted e)
map_read_accepted f (accepted a) b e = (a, refl, cc)
