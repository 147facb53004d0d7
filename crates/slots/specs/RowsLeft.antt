-- The rows of a slot that an iterator has left, from the last one back. Document 02, R-6.
use Rattle.std.specs.Prelude.{ℕ, List, ◌≡◌, Option, Some, None}
use Rattle.slots.specs.declared.slots.Slots.{Slots}
use Rattle.slots.specs.declared.walks.SlotRows.{SlotRows}
use Rattle.slots.specs.Slots.{next_at}

-- The rows from v back are left, or none is.
pub record RowsOf (work : List ℕ) (slots : Slots) (v : Option ℕ) (s : SlotRows) : Type 0 where
  pub its_work : s.work.now ≡ work
  pub its_slots : s.slots ≡ slots
  pub its_last : s.last ≡ v

-- The last that was left is given; those from the one before it back are left.
pub record RowGiven (old : SlotRows) (k : ℕ) (new : SlotRows) : Type 0 where
  pub last : old.last ≡ Some k
  pub left : RowsOf old.work.now old.slots (next_at old.work.now old.slots k) new

-- None is left.
pub record NoneGiven (old new : SlotRows) : Type 0 where
  pub none : old.last ≡ None
  pub same : new ≡ old

-- by the cases of the answer
abbrev pub RowsGiven : SlotRows → Option ℕ → SlotRows → Type 0
RowsGiven old (Some k) new = RowGiven old k new
RowsGiven old None new = NoneGiven old new
