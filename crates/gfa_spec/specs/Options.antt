-- An Option, which is Rust's, taken apart.
use Rattle.std.specs.Prelude.{Option, None, Some}

-- what f gives of the value, or b where there is none
unfoldable pub map_or : {A B : Type 0} → Option A → B → (A → B) → B
map_or None b f = b
map_or (Some a) b f = f a
