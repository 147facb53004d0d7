-- Signs and orientations. Assumes nothing.
use Rattle.std.proofs.Common.{ℕ, ◌<◌, arith, ◌≡◌, refl, sym, true, None}
use borrow.Author.Tests.{eqb-true, ne_eqb}
use denote.Enum.Bare.{sameb}
use lib.Dec.{eqb}
use Rattle.scan.specs.contracts.orientation.Orientation.{the_type}
use Rattle.gfa_spec.specs.Reading.{is_orientation}
use Rattle.scan.specs.declared.orientation.Orientation.{Orientation}
use Rattle.scan.specs.declared.orientation.Orientation.TheVariants.{Forward, Reverse}
use Rattle.scan.specs.Orientations.{sign_of, OrientationIs}

-- any byte but + and - is no sign
pub no_sign : (b : ℕ) → (b ≡ 43 → ⊥) → (b ≡ 45 → ⊥) → OrientationIs b None
unfolding is_orientation
no_sign b p q = record { says = rw (ne_eqb b 43 p, ne_eqb b 45 q) }

-- the sign of an orientation is one
pub sign_is : (o : Orientation) → is_orientation (sign_of o) ≡ true
unfolding is_orientation
sign_is Forward = refl
sign_is Reverse = refl

-- it is small
pub sign_small : (o : Orientation) → sign_of o < 256
sign_small Forward = omega arith
sign_small Reverse = omega arith

-- a sign that is not + is -
pub reverse_sign : {b : ℕ} → is_orientation b ≡ true → (b ≡ 43 → ⊥) → 45 ≡ b
unfolding is_orientation
reverse_sign {b} h p = sym (eqb-true b 45 (rw (ne_eqb b 43 p) at h))

-- orientations are equal where their signs are
pub eq_signs : (a b : Orientation) → sameb the_type a b ≡ eqb (sign_of a) (sign_of b)
eq_signs Forward Forward = refl
eq_signs Forward Reverse = refl
eq_signs Reverse Forward = refl
eq_signs Reverse Reverse = refl
