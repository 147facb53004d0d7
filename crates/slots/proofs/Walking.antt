-- A walk along a slot in search of the last row that has P, where all rows that have P are in that slot: one law for any rows and any property. And what the
-- iterator over the rows of a slot relies on. Assumes nothing.
use Prim.Native.Nat.{ℕ, ◌+◌, ◌*◌, ◌≤◌, ◌<◌}
use native.Mathlib.Decide.{dec_lt, ℕ_discrete}
use native.Mathlib.Omega.{arith}
use mathlib.Core.List.{List}
use mathlib.Core.Path.{◌≡◌, refl, ◌∙◌}
use lib.ListN.{length}
use Rattle.std.specs.Prelude.{Option, None, Some}
use Rattle.gfa_spec.proofs.Options.{None-ne-Some}
use Rattle.work.specs.Rows.{word_of}
use Rattle.work.proofs.Words.{word_some, word_number}
use Rattle.slots.specs.declared.slots.Slots.{Slots}
use Rattle.slots.specs.declared.walks.SlotRows.{SlotRows}
use Rattle.slots.specs.Slots.{head_at, next_at, Last, Slotted, Backward, Begins}
use Rattle.slots.specs.RowsLeft.{RowsOf, RowGiven, NoneGiven}

-- ---- the iterator

-- all rows of a slot
pub all_backward : {work : List ℕ} {s : Slots} {slot : ℕ} {v : Option ℕ} → Begins work s slot → v ≡ head_at work s slot → Backward work s (word_of v)
all_backward b e = rw (e, word_number) b.backward

-- the last row that is left stands, and the rows before it are fewer
module _ {work : List ℕ} {s : Slots} {v : Option ℕ} {k : ℕ} (b : Backward work s (word_of v)) (z : v ≡ Some k) where
  is_behind : k < word_of v
  is_behind = omega (arith, word_some v k z)

  pub row_stands : s.nexts + s.stride * k < length work
  row_stands = b.stands k is_behind

  module _ {u : Option ℕ} (e : u ≡ next_at work s k) where
    before_small : word_of u ≤ k
    before_small = rw (e, word_number) (b.back k is_behind)

    pub before_fewer : word_of u < word_of v
    before_fewer = omega (arith, before_small, is_behind)

    pub before_backward : Backward work s (word_of u)
    before_backward = record { stands = λ i h. b.stands i (omega (arith, before_fewer)); back = λ i h. b.back i (omega (arith, before_fewer)) }

-- ---- the search

-- The state of a search by an iterator: it goes over rows of a slot, no row behind the last that it has left has P, and that one is in the slot.
pub record Seeking (row_slot : ℕ → ℕ) (P : ℕ → Type 0) (work : List ℕ) (s : Slots) (n slot : ℕ) (it : SlotRows) : Type 0 where
  pub rows : RowsOf work s it.last it
  pub slotted : Slotted row_slot work s n
  pub alike : (i : ℕ) → i < n → P i → row_slot i ≡ slot
  pub on : (k : ℕ) → it.last ≡ Some k → (k < n) × (row_slot k ≡ slot)
  pub later : (i : ℕ) → word_of it.last ≤ i → i < n → P i → ⊥

module _ {row_slot : ℕ → ℕ} {P : ℕ → Type 0} {work : List ℕ} {s : Slots} {n slot : ℕ} where
  pub seek_start : {of it : SlotRows} → Slotted row_slot work s n → ((i : ℕ) → i < n → P i → row_slot i ≡ slot) → slot < s.count
      → RowsOf work s (head_at work s slot) of → it ≡ of → Seeking row_slot P work s n slot it
  seek_start {it = it} t a l o e =
      let r : RowsOf work s (head_at work s slot) it = rw e o in
      let last : Last (λ i. row_slot i ≡ slot) n it.last = rw r.its_last (t.heads slot l) in
      record {
        rows = record { its_work = r.its_work; its_slots = r.its_slots; its_last = refl };
        slotted = t;
        alike = a;
        on = last.on;
        later = λ i b h p. last.later i b h (a i h p);
      }

  module _ {it new : SlotRows} (h : Seeking row_slot P work s n slot it) where
    -- no row is left
    pub seek_end : NoneGiven it new → Last P n None
    seek_end o = record { on = λ k z. absurd (None-ne-Some k z); later = rw o.none at h.later }

    module _ {k : ℕ} (o : RowGiven it k new) where
      -- the row is one of them, and in the slot
      pub seek_row : (k < n) × (row_slot k ≡ slot)
      seek_row = h.on k o.last

      -- it has P
      pub seek_hit : P k → Last P n (Some k)
      seek_hit p = record { on = λ i y. let one : i ≡ k = cc in rw one (seek_row.0, p); later = rw o.last at h.later }

      -- it has not
      pub seek_more : (P k → ⊥) → Seeking row_slot P work s n slot new
      seek_more d =
          let r = h.rows in
          let l = o.left in
          record {
            rows = record { its_work = l.its_work ∙ r.its_work; its_slots = l.its_slots ∙ r.its_slots; its_last = refl };
            slotted = h.slotted;
            alike = h.alike;
            on = λ i y. let b = before.on i y in (omega (arith, b.0, seek_row.0), b.1);
            later = λ i b l p. go i b l p (dec_lt i k) (ℕ_discrete i k);
          }
        where
          before : Last (λ i. row_slot i ≡ slot) k new.last
          before = rw (o.left.its_last, h.rows.its_work, h.rows.its_slots, ← seek_row.1) (h.slotted.nexts k seek_row.0)

          go : (i : ℕ) → word_of new.last ≤ i → i < n → P i → Dec (i < k) → Dec (i ≡ k) → ⊥
          go i b l p (yes m) e = before.later i b m (h.alike i l p)
          go i b l p (no m) (yes e) = d (rw e at p)
          go i b l p (no m) (no e) = h.later i (omega (arith, word_some it.last k o.last)) l p
