-- A normalizer's tables, which stay the same. Assumes nothing.
use mathlib.Core.Path.{refl, ◌∙◌}
use Rattle.normalize_tables.specs.declared.normalizer.Normalizer.{Normalizer}
use Rattle.normalize_tables.specs.Normalizers.{SameTables}

pub same_none : {t : Normalizer} → SameTables t t
same_none = record { text = refl; loan = refl; bases = refl; counts = refl; layout = refl }

pub same_then : {a b c : Normalizer} → SameTables a b → SameTables b c → SameTables a c
same_then s t = record { text = t.text ∙ s.text; loan = t.loan ∙ s.loan; bases = t.bases ∙ s.bases; counts = t.counts ∙ s.counts; layout = t.layout ∙ s.layout }
