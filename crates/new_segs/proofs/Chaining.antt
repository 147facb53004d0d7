-- The search among the new segments on a unit, by the slots of their units; and those slots kept. Assumes nothing.
use Prim.Native.Nat.{ℕ, ◌+◌, ◌<◌}
use mathlib.Core.List.{List}
use mathlib.Core.Path.{◌≡◌, sym, ap, ◌∙◌}
use lib.ListN.{length}
use Rattle.std.specs.Prelude.{None, Some}
use Rattle.slots.specs.declared.walks.SlotRows.{SlotRows}
use Rattle.slots.specs.Slots.{head_at, Begins}
use Rattle.slots.specs.RowsLeft.{RowsOf, RowGiven, NoneGiven}
use Rattle.slots.proofs.Slotting.{slotted_same, slotted_kept, slotted_begins}
use Rattle.slots.proofs.Walking.{Seeking, seek_start, seek_row, seek_hit, seek_more, seek_end}
use Rattle.tables.specs.declared.tables.Bases.{Bases}
use Rattle.tables.specs.declared.tables.Counts.{Counts}
use Rattle.work.proofs.Rows.{KeptWords}
use Rattle.normalize_tables.specs.declared.layout.Layout.{Layout}
use Rattle.normalize_tables.specs.declared.rows.NewSegmentWords.{NewSegmentWords}
use Rattle.normalize_tables.specs.News.{segment_words}
use Rattle.normalize_tables.specs.NewByNumber.{unit_slots, NewSegmentIs, SegmentsKept}
use Rattle.normalize_tables.proofs.NewByNumber.{unit_kept}
use Rattle.new_segs.specs.Chains.{UnitsSlotted, OfRun, MadeIs}
use Rattle.new_segs.specs.Makes.{Making}

-- ---- the search

-- The state of the search for a unit and a run length, among the first q new segments.
pub record Left (work : List ℕ) (n : Counts) (g : Layout) (q unit count : ℕ) (it : SlotRows) : Type 0 where
  pub seeking : Seeking (λ j. (segment_words work g j).unit.0) (OfRun work g unit count) work (unit_slots n g) q unit it

module _ {text work : List ℕ} {b : Bases} {n : Counts} {g : Layout} {first q unit : ℕ} (m : Making text work b n g first q × (unit < n.segs)) where
  -- the new segments on the unit may be walked
  pub units_begin : Begins work (unit_slots n g) unit
  units_begin = slotted_begins m.0.slotted m.1

  pub left_start : {count : ℕ} {of it : SlotRows} → RowsOf work (unit_slots n g) (head_at work (unit_slots n g) unit) of → it ≡ of → Left work n g q unit count it
  left_start o e = record { seeking = seek_start m.0.slotted (λ i l p. p.of_unit) m.1 o e }

module _ {work : List ℕ} {n : Counts} {g : Layout} {q unit count : ℕ} {it new : SlotRows} (h : Left work n g q unit count it) where
  -- no row is left
  pub left_end : NoneGiven it new → MadeIs work g q unit count None
  left_end o = seek_end h.seeking o

  module _ {j : ℕ} (o : RowGiven it j new) where
    -- the row is one of them
    pub left_row : j < q
    left_row = (seek_row h.seeking o).0

    module _ {text : List ℕ} {b : Bases} {first : ℕ} {r : NewSegmentWords} (w : NewSegmentIs text work b n g first j r) where
      -- of the run length
      pub left_hit : r.count ≡ count → MadeIs work g q unit count (Some j)
      left_hit f = seek_hit h.seeking o (record { of_unit = (seek_row h.seeking o).1; of_count = sym (ap (λ x. x.count) w.words) ∙ f })

      -- of another
      pub left_more : (r.count ≡ count → ⊥) → Left work n g q unit count new
      left_more f = record { seeking = seek_more h.seeking o (λ p. f (ap (λ x. x.count) w.words ∙ p.of_count)) }

-- what the search goes on by
pub ruleset searching = (units_begin, left_hit, left_end)

-- ---- the slots kept

-- where the rows are, with their words, and the words of the slots
pub units_kept : {w w' : List ℕ} (n : Counts) (g : Layout) {q : ℕ} → SegmentsKept g q w w' → length w' ≡ length w → KeptWords g.last (g.last + n.segs) w w' → UnitsSlotted w n g q
    → UnitsSlotted w' n g q
units_kept {w' = w'} n g k e heads s = slotted_same (λ j. (segment_words w' g j).unit.0) (λ j h. unit_kept g k j h) (slotted_kept e heads k.next s)
