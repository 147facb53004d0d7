-- Slots over rows of any kind: each row has a slot, `row_slot` gives it by the row's number, whatever the row is made of. In the work area stands a word for
-- each slot, the last row in it, and a word for each row, the last row before it in its slot; each is a number that may be missing (`word_of`).
-- Document 02, R-6.
use Rattle.std.specs.Prelude.{ℕ, ◌+◌, ◌*◌, ◌%◌, ◌≤◌, ◌<◌, ◌⊎◌, Option, Some, List, [], ◌∷◌, ◌≡◌, length, get_or}
use Rattle.work.specs.Rows.{span, Only, word_of, number_in}
use Rattle.slots.specs.declared.slots.Slots.{Slots}

-- the last row in a slot, and the last row before row k in its slot
abbrev pub head_at : List ℕ → Slots → ℕ → Option ℕ
head_at work s slot = number_in (get_or work (s.heads + slot) 0)

abbrev pub next_at : List ℕ → Slots → ℕ → Option ℕ
next_at work s k = number_in (get_or work (s.nexts + s.stride * k) 0)

-- The last of the first n rows that has P is r; or there is none.
pub record Last (P : ℕ → Type 0) (n : ℕ) (r : Option ℕ) : Type 0 where
  pub on : (k : ℕ) → r ≡ Some k → (k < n) × P k
  pub later : (i : ℕ) → word_of r ≤ i → i < n → P i → ⊥

-- The first n rows are in their slots.
pub record Slotted (row_slot : ℕ → ℕ) (work : List ℕ) (s : Slots) (n : ℕ) : Type 0 where
  pub room : s.heads + s.count ≤ length work
  pub stands : (k : ℕ) → k < n → s.nexts + s.stride * k < length work
  pub heads : (h : ℕ) → h < s.count → Last (λ i. row_slot i ≡ h) n (head_at work s h)
  pub nexts : (k : ℕ) → k < n → Last (λ i. row_slot i ≡ row_slot k) k (next_at work s k)

-- No row is in any slot; only the slots' words have changed.
pub record SlotsCleared (before after : List ℕ) (s : Slots) : Type 0 where
  pub slotted : (row_slot : ℕ → ℕ) → Slotted row_slot after s 0
  pub long : length after ≡ length before
  pub only : Only (span s.heads (s.heads + s.count) ∷ []) before after

-- There is room for the word of row k, which is to be put into this slot; the words of the first rows and its own are no words of slots.
pub record Addable (work : List ℕ) (s : Slots) (slot k : ℕ) : Type 0 where
  pub small : slot < s.count
  pub few : k + 1 < 4294967296
  pub room : s.heads + s.count ≤ length work
  pub stands : s.nexts + s.stride * k < length work
  pub wide : 0 < s.stride
  pub apart : (i : ℕ) → i ≤ k → (s.nexts + s.stride * i < s.heads) ⊎ (s.heads + s.count ≤ s.nexts + s.stride * i)

-- Row k is in this slot, whatever the slots of the other rows are; only words of slots and the row's own word have changed.
pub record RowAdded (before after : List ℕ) (s : Slots) (slot k : ℕ) : Type 0 where
  pub slotted : (row_slot : ℕ → ℕ) → Slotted row_slot before s k → row_slot k ≡ slot → Slotted row_slot after s (k + 1)
  pub long : length after ≡ length before
  pub only : Only (span s.heads (s.heads + s.count) ∷ span (s.nexts + s.stride * k) (s.nexts + s.stride * k + 1) ∷ []) before after

-- What a walk relies on: the words of the first n rows stand, and each leads to a row before its own.
pub record Backward (work : List ℕ) (s : Slots) (n : ℕ) : Type 0 where
  pub stands : (k : ℕ) → k < n → s.nexts + s.stride * k < length work
  pub back : (k : ℕ) → k < n → get_or work (s.nexts + s.stride * k) 0 ≤ k

-- The rows of a slot may be walked.
pub record Begins (work : List ℕ) (s : Slots) (slot : ℕ) : Type 0 where
  pub inside : s.heads + slot < length work
  pub backward : Backward work s (get_or work (s.heads + slot) 0)

-- The slot of a sum, of so many.
pub record SlotIs (sum count r : ℕ) : Type 0 where
  pub is : r ≡ sum % count
  pub small : r < count
