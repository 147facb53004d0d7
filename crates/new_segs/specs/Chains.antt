-- New segments in the slots of their units, and the last that was made for a run. Document 01, "Folding", rule 4; document 02, R-6.
use Rattle.std.specs.Prelude.{ℕ, Option, List, ◌≡◌}
use Rattle.slots.specs.Slots.{Last, Slotted}
use Rattle.tables.specs.declared.tables.Counts.{Counts}
use Rattle.normalize_tables.specs.declared.layout.Layout.{Layout}
use Rattle.normalize_tables.specs.News.{segment_words}
use Rattle.normalize_tables.specs.NewByNumber.{unit_slots}

-- the first q new segments are in the slots of their units
abbrev pub UnitsSlotted : List ℕ → Counts → Layout → ℕ → Type 0
UnitsSlotted work n g q = Slotted (λ j. (segment_words work g j).unit.0) work (unit_slots n g) q

-- New segment j is of this unit and this run length.
pub record OfRun (work : List ℕ) (g : Layout) (unit count j : ℕ) : Type 0 where
  pub of_unit : (segment_words work g j).unit.0 ≡ unit
  pub of_count : (segment_words work g j).count ≡ count

-- the last of the first q new segments of a unit and a run length is r; or there is none
abbrev pub MadeIs : List ℕ → Layout → ℕ → ℕ → ℕ → Option ℕ → Type 0
MadeIs work g q unit count r = Last (OfRun work g unit count) q r
