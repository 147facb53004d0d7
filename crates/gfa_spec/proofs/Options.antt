-- The two forms of an Option differ, and a value is its own. Assumes nothing.
use Rattle.std.specs.Prelude.{◌≡◌, refl, true, false, Option, None, Some, is_some}

module _ {A : Type 0} where
  pub Some-injective : (a b : A) → Some a ≡ Some b → a ≡ b
  Some-injective a b h = cc

  pub None-ne-Some : (a : A) → ¬ (None ≡ Some a)
  None-ne-Some a h = cc

  pub Some-ne-None : (a : A) → ¬ (Some a ≡ None)
  Some-ne-None a h = cc

-- what a test for a value tells
module _ {A : Type 0} where
  pub none_is : (r : Option A) → is_some r ≡ false → r ≡ None
  none_is None e = refl
  none_is (Some a) e = cc

  pub some_is : (r : Option A) → is_some r ≡ true → (a : A) × (r ≡ Some a)
  some_is None e = cc
  some_is (Some a) e = (a, refl)
