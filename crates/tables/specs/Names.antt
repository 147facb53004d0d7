-- Segments in the slots of their IDs. Document 02, R-6.
use Rattle.std.specs.Prelude.{ℕ, ◌+◌, ◌*◌, ◌-◌, ◌%◌, ◌≤◌, ◌<◌, List, [], ◌∷◌, ◌≡◌, length}
use Rattle.gfa_spec.specs.Sums.{name_sum}
use Rattle.scan.specs.Places.{Inside, bytes_in}
use Rattle.work.specs.Rows.{span, Only}
use Rattle.slots.specs.declared.slots.Slots.{Slots}
use Rattle.slots.specs.declared.walks.SlotRows.{SlotRows}
use Rattle.slots.specs.RowsLeft.{RowsOf}
use Rattle.slots.specs.Slots.{Slotted, head_at}
use Rattle.tables.specs.declared.tables.Bases.{Bases}
use Rattle.tables.specs.declared.rows.SegmentWords.{SegmentWords}
use Rattle.tables.specs.Segments.{segment_at, SegmentRow}

-- the slots of IDs: their words stand between the segments and the links, and a segment's own word is the last of its row
abbrev pub slots_of : Bases → Slots
slots_of b = record { heads = b.heads; count = b.links - b.heads; nexts = b.segs + 6; stride = 7 }

-- the ID of segment k, and the slot of a sum
abbrev pub id_no : List ℕ → List ℕ → Bases → ℕ → List ℕ
id_no text work b k = (segment_at text work (b.segs + 7 * k)).id

abbrev pub slot_of : Bases → ℕ → ℕ
slot_of b sum = sum % (b.links - b.heads)

-- The first n segments are in the slots of their IDs, and no two of them have one ID.
pub record NamesSlotted (text work : List ℕ) (b : Bases) (n : ℕ) : Type 0 where
  pub slotted : Slotted (λ k. slot_of b (name_sum (id_no text work b k))) work (slots_of b) n
  pub once : (i k : ℕ) → i < k → k < n → id_no text work b i ≡ id_no text work b k → ⊥

-- The segments in the slot of a sum are given, from the last one back.
pub record InSlot (work : List ℕ) (b : Bases) (sum : ℕ) (s : SlotRows) : Type 0 where
  pub rows : RowsOf work (slots_of b) (head_at work (slots_of b) (slot_of b sum)) s

-- No segment is in any slot; only the slots' words have changed.
pub record NamesCleared (before after : List ℕ) (b : Bases) : Type 0 where
  pub names : (text : List ℕ) → NamesSlotted text after b 0
  pub long : length after ≡ length before
  pub only : Only (span b.heads b.links ∷ []) before after

-- There is room for segment k, and none before it has its ID.
pub record Insertable (text work : List ℕ) (b : Bases) (k : ℕ) (s : SegmentWords) : Type 0 where
  pub few : k ≤ 2097152
  pub short : length text ≤ 1048576
  pub line : Inside text s.line
  pub id : Inside text s.id
  pub sequence : Inside text s.sequence
  pub segs : b.segs + 7 * k + 7 ≤ b.heads
  pub heads : b.heads < b.links
  pub room : b.links ≤ length work
  pub names : NamesSlotted text work b k
  pub fresh : (i : ℕ) → i < k → id_no text work b i ≡ bytes_in text s.id → ⊥

-- Segment k is put: its row, and into the slot of its ID; only its row and the slots' words have changed.
pub record Inserted (text before after : List ℕ) (b : Bases) (k : ℕ) (s : SegmentWords) : Type 0 where
  pub segment : segment_at text after (b.segs + 7 * k) ≡ record { id = bytes_in text s.id; sequence = bytes_in text s.sequence; line = bytes_in text s.line }
  pub row : SegmentRow text after (b.segs + 7 * k)
  pub names : NamesSlotted text after b (k + 1)
  pub long : length after ≡ length before
  pub only : Only (span (b.segs + 7 * k) (b.segs + 7 * k + 7) ∷ span b.heads b.links ∷ []) before after
