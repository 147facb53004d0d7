-- What the code answers for the last place where two strings of one length differ. Document 02, R-4.
use Rattle.std.specs.Prelude.{ℕ, List, Option, ◌≡◌}
use Rattle.gfa_spec.specs.Bytes.{last_difference, DifferenceSays}

-- The definition's place or none; so they differ there and agree behind it, or they are equal.
pub record DifferenceIs (xs ys : List ℕ) (r : Option ℕ) : Type 0 where
  pub place : r ≡ last_difference xs ys
  pub says : DifferenceSays xs ys r
