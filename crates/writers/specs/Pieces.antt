-- Lines of a report, as what they are made of is lent.
use Rattle.std.specs.Prelude.{ℕ, List, ◌∷◌, ◌++◌}
use Rattle.std.specs.Borrow.{Bor}
use Rattle.gfa_spec.specs.Decimal.{decimal}

-- a name, `=` (61), and a number
abbrev pub lent_line : Bor (List ℕ) × ℕ → List ℕ
lent_line l = l.0.now ++ (61 ∷ decimal l.1)
