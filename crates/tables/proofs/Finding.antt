-- The search for the segment of a name, along the slot of its sum. Assumes nothing.
use Prim.Native.Nat.{ℕ, ◌-◌, ◌<◌}
use native.Mathlib.Nat.{mod-lt}
use native.Mathlib.Omega.{arith}
use mathlib.Core.Bool.{Bool, true, false}
use mathlib.Core.List.{List}
use mathlib.Core.Path.{◌≡◌, ap, sym}
use Rattle.std.specs.Prelude.{None, Some}
use Rattle.gfa_spec.specs.Bytes.{same}
use Rattle.gfa_spec.specs.Records.{segment_number}
use Rattle.gfa_spec.specs.Sums.{name_sum}
use Rattle.gfa_spec.proofs.Tests.{same_equal, equal_same, clash}
use Rattle.scan.specs.declared.places.Place.{Place}
use Rattle.scan.specs.Places.{bytes_in}
use Rattle.slots.specs.Slots.{Begins}
use Rattle.slots.specs.RowsLeft.{RowGiven, NoneGiven}
use Rattle.slots.specs.declared.walks.SlotRows.{SlotRows}
use Rattle.slots.proofs.Slotting.{slotted_begins}
use Rattle.slots.proofs.Walking.{Seeking, seek_start, seek_row, seek_hit, seek_more, seek_end}
use Rattle.tables.specs.declared.tables.Bases.{Bases}
use Rattle.tables.specs.ByNumber.{segments_to, FoundIs}
use Rattle.tables.specs.Segments.{segment_found}
use Rattle.tables.specs.Names.{slots_of, id_no, slot_of, NamesSlotted, InSlot}
use Rattle.tables.proofs.Numbers.{last_number}

-- The state of the search: it goes along the rows of the name's slot, and none behind them has the name.
pub record Finding (text work : List ℕ) (b : Bases) (count : ℕ) (name : List ℕ) (s : SlotRows) : Type 0 where
  pub names : NamesSlotted text work b count
  pub seeking : Seeking (λ k. slot_of b (name_sum (id_no text work b k))) (λ k. id_no text work b k ≡ name) work (slots_of b) count (slot_of b (name_sum name)) s

module _ {text work : List ℕ} {b : Bases} {count : ℕ} (n : NamesSlotted text work b count) (h : b.heads < b.links) (sum : ℕ) where
  small : slot_of b sum < b.links - b.heads
  small = mod-lt sum (omega arith)

  -- a slot may be walked
  pub find_begins : Begins work (slots_of b) (slot_of b sum)
  find_begins = slotted_begins n.slotted small

  pub find_start : (name : List ℕ) {s it : SlotRows} → sum ≡ name_sum name → InSlot work b sum s → it ≡ s → Finding text work b count name it
  find_start name e o z =
      record { names = n; seeking = rw e at (seek_start n.slotted (λ k l q. rw e (ap (λ x. slot_of b (name_sum x)) q)) small o.rows z) }

module _ {text work : List ℕ} {b : Bases} {count : ℕ} {name : List ℕ} {s t : SlotRows} (f : Finding text work b count name s) where
  -- none is left
  pub find_end : NoneGiven s t → segment_number (segments_to text work b count) name ≡ None
  find_end o = last_number text work b name count None f.names.once (seek_end f.seeking o)

  module _ {k : ℕ} (o : RowGiven s k t) where
    pub find_below : k < count
    find_below = (seek_row f.seeking o).0

    -- it has the name
    pub find_hit : id_no text work b k ≡ name → segment_number (segments_to text work b count) name ≡ Some k
    find_hit q = last_number text work b name count (Some k) f.names.once (seek_hit f.seeking o q)

    -- it has not
    pub find_more : (id_no text work b k ≡ name → ⊥) → Finding text work b count name t
    find_more d = record { names = f.names; seeking = seek_more f.seeking o d }

-- ---- the search for a part of the text

module _ {text work : List ℕ} {b : Bases} {count : ℕ} (name : Place) {s t : SlotRows} (f : Finding text work b count (bytes_in text name) s) where
  pub found_none : NoneGiven s t → FoundIs text work b count name None
  found_none o = record { answer = sym (ap segment_found (find_end f o)); below = tt }

  module _ {k : ℕ} (o : RowGiven s k t) {r : Bool} (e : r ≡ same (id_no text work b k) (bytes_in text name)) where
    pub found_hit : r ≡ true → FoundIs text work b count name (Some (record { 0 = k }))
    found_hit z = record { answer = sym (ap segment_found (find_hit f o (same_equal (id_no text work b k) (bytes_in text name) (rw e at z)))); below = find_below f o }

    pub found_more : r ≡ false → Finding text work b count (bytes_in text name) t
    found_more z = find_more f o (λ p. clash (equal_same (id_no text work b k) (bytes_in text name) p) (rw e at z))
