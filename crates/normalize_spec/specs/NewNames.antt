-- The names of new segments by their parts: the unit's name, the run length, the suffix. Document 01, "Folding", rule 5.
use Rattle.std.specs.Prelude.{ℕ, zero, suc, List, [], ◌∷◌, ◌++◌}
use Rattle.gfa_spec.specs.Bytes.{bytes}
use Rattle.gfa_spec.specs.Decimal.{decimal}
use Rattle.normalize_spec.specs.Folding.{base_name}

-- nothing, or `_` and a number from 1 on
unfoldable pub suffix : ℕ → List ℕ
suffix zero = []
suffix (suc k) = 95 ∷ decimal (suc k)

-- the name of a unit and a run length, with a suffix
unfoldable pub new_name : List ℕ → ℕ → ℕ → List ℕ
new_name unit count k = base_name unit count ++ suffix k

-- what stands in it behind the sanitized name of the unit
unfoldable pub name_tail : ℕ → ℕ → List ℕ
name_tail count k = bytes "_selfloop_run" ++ (decimal count ++ suffix k)
