-- Orientations by their signs.
use Rattle.std.specs.Prelude.{ℕ, Option, None, Some, false, ◌≡◌}
use Rattle.scan.specs.declared.orientation.Orientation.{Orientation}
use Rattle.scan.specs.declared.orientation.Orientation.TheVariants.{Forward, Reverse}
use Rattle.gfa_spec.specs.Reading.{is_orientation}

-- + is forward, - is reverse
abbrev pub sign_of : Orientation → ℕ
sign_of Forward = 43
sign_of Reverse = 45

-- by the cases of the answer
abbrev pub OrientationSays : ℕ → Option Orientation → Type 0
OrientationSays b (Some o) = b ≡ sign_of o
OrientationSays b None = is_orientation b ≡ false

-- What the answer to a sign says: its orientation, or that it is none.
pub record OrientationIs (b : ℕ) (r : Option Orientation) : Type 0 where
  pub says : OrientationSays b r
