-- Laws of slots, whatever gives the slot of a row: slots kept, emptied, and with one row more. Assumes nothing.
use Prim.Native.Nat.{ℕ, ◌+◌, ◌*◌, ◌/◌, ◌≤◌, ◌<◌}
use native.Mathlib.Decide.{ℕ_discrete}
use native.Mathlib.Omega.{arith}
use native.Mathlib.Numerals.{add-one}
use mathlib.Core.List.{List}
use mathlib.Core.Logic.{◌⊎◌, inl, inr}
use mathlib.Core.Path.{◌≡◌, sym, ap, ◌∙◌}
use lib.ListN.{length, get_or, set, length-set}
use lib.Seq.{get_or-set_same, get_or-set_other}
use Rattle.std.proofs.Math.Nat.{mul-div_cancel_left}
use Rattle.std.specs.Prelude.{Some}
use Rattle.work.specs.Rows.{Cleared, number_in}
use Rattle.work.proofs.Rows.{KeptWords}
use Rattle.slots.specs.declared.slots.Slots.{Slots}
use Rattle.slots.proofs.Lasts.{last_same, last_none, last_new, last_more, last_small}
use Rattle.slots.specs.Slots.{head_at, next_at, Last, Slotted, SlotsCleared, Addable, RowAdded, Begins}

-- ---- slots

module _ {row_slot : ℕ → ℕ} {w : List ℕ} {s : Slots} {n : ℕ} where
  -- another function that gives these rows the same slots
  pub slotted_same : (row_slot' : ℕ → ℕ) → ((i : ℕ) → i < n → row_slot' i ≡ row_slot i) → Slotted row_slot w s n → Slotted row_slot' w s n
  slotted_same row_slot' e t =
      record {
        room = t.room;
        stands = t.stands;
        heads = λ h l. last_same (λ i b q. e i b ∙ q) (λ i b q. sym (e i b) ∙ q) (t.heads h l);
        nexts = λ k l. last_same (λ i b q. e i (omega arith) ∙ q ∙ sym (e k l)) (λ i b q. sym (e i (omega arith)) ∙ q ∙ e k l) (t.nexts k l);
      }

  -- a work area with the same words there
  pub slotted_kept : {w' : List ℕ} → length w' ≡ length w → KeptWords s.heads (s.heads + s.count) w w'
      → ((k : ℕ) → k < n → get_or w' (s.nexts + s.stride * k) 0 ≡ get_or w (s.nexts + s.stride * k) 0) → Slotted row_slot w s n → Slotted row_slot w' s n
  slotted_kept e heads nexts t =
      record {
        room = omega (arith, t.room);
        stands = λ k l. omega (arith, t.stands k l);
        heads = λ h l. rw (heads.word (s.heads + h) (omega arith) (omega arith)) (t.heads h l);
        nexts = λ k l. rw (nexts k l) (t.nexts k l);
      }

  -- the rows of a slot may be walked
  pub slotted_begins : {slot : ℕ} → Slotted row_slot w s n → slot < s.count → Begins w s slot
  slotted_begins {slot} t h =
      let small = last_small _ (t.heads slot h) in
      record {
        inside = omega (arith, t.room);
        backward = record { stands = λ k l. t.stands k (omega (arith, small)); back = λ k l. last_small _ (t.nexts k (omega (arith, small))) };
      }

-- slots that were emptied
pub slots_cleared : {w w' : List ℕ} {s : Slots} → s.heads + s.count ≤ length w → Cleared w w' s.heads s.count → SlotsCleared w w' s
unfolding number_in
slots_cleared h c =
    record {
      slotted = λ row_slot. record { room = omega (arith, c.long); stands = λ k l. absurd (omega arith); heads = λ i l. rw (c.zeros i l) last_none; nexts = λ k l. absurd (omega arith) };
      long = c.long;
      only = c.only;
    }

-- ---- one row more

-- the number of its word
number_next : (k : ℕ) → number_in (k + 1) ≡ Some k
unfolding number_in
number_next k = rw add-one

-- another row's word stands elsewhere
rows_apart : (at i k : ℕ) {n : ℕ} → 0 < n → (i ≡ k → ⊥) → at + n * i ≡ at + n * k → ⊥
rows_apart at i k {n} h d e =
    let times : n * i ≡ n * k = omega arith in
    d (sym (mul-div_cancel_left i h) ∙ ap (λ x. x / n) times ∙ mul-div_cancel_left k h)

module _ {w : List ℕ} {s : Slots} {slot k : ℕ} (y : Addable w s slot k) where
  abbrev w1 : List ℕ
  w1 = set w (s.nexts + s.stride * k) (get_or w (s.heads + slot) 0)

  abbrev w2 : List ℕ
  w2 = set w1 (s.heads + slot) (k + 1)

  long1 : length w1 ≡ length w
  long1 = length-set w (s.nexts + s.stride * k) (get_or w (s.heads + slot) 0)

  long2 : length w2 ≡ length w
  long2 = length-set w1 (s.heads + slot) (k + 1) ∙ long1

  -- a word that is neither of the two
  other : (i : ℕ) → (i ≡ s.nexts + s.stride * k → ⊥) → (i ≡ s.heads + slot → ⊥) → get_or w2 i 0 ≡ get_or w i 0
  other i a b = get_or-set_other w1 (s.heads + slot) i (k + 1) 0 b ∙ get_or-set_other w (s.nexts + s.stride * k) i (get_or w (s.heads + slot) 0) 0 a

  -- the word of a row is not that of a slot
  not_slot : (i h : ℕ) → i ≤ k → h < s.count → s.nexts + s.stride * i ≡ s.heads + h → ⊥
  not_slot i h l m e = go (y.apart i l)
    where
      go : (s.nexts + s.stride * i < s.heads) ⊎ (s.heads + s.count ≤ s.nexts + s.stride * i) → ⊥
      go (inl a) = omega arith
      go (inr a) = omega arith

  -- the row's own word
  own : get_or w2 (s.nexts + s.stride * k) 0 ≡ get_or w (s.heads + slot) 0
  own =
      get_or-set_other w1 (s.heads + slot) (s.nexts + s.stride * k) (k + 1) 0 (not_slot k slot (omega arith) y.small)
      ∙ get_or-set_same w (s.nexts + s.stride * k) (get_or w (s.heads + slot) 0) 0 y.stands

  -- the word of its slot
  its_slot : get_or w2 (s.heads + slot) 0 ≡ k + 1
  its_slot = get_or-set_same w1 (s.heads + slot) (k + 1) 0 (omega (arith, y.small, y.room, long1))

  module _ {row_slot : ℕ → ℕ} (t : Slotted row_slot w s k) (e : row_slot k ≡ slot) where
    heads_are : (h : ℕ) → h < s.count → Dec (h ≡ slot) → Last (λ i. row_slot i ≡ h) (k + 1) (head_at w2 s h)
    heads_are h l (yes q) = rw (q, its_slot, number_next k) (last_new k e)
    heads_are h l (no q) =
        rw (other (s.heads + h) (λ z. not_slot k h (omega arith) l (sym z)) (λ z. q (omega arith))) (last_more (λ p. q (sym p ∙ e)) (t.heads h l))

    nexts_are : (i : ℕ) → i < k + 1 → Dec (i ≡ k) → Last (λ j. row_slot j ≡ row_slot i) i (next_at w2 s i)
    nexts_are i l (yes q) = rw (q, own, e) (t.heads slot y.small)
    nexts_are i l (no q) =
        rw (other (s.nexts + s.stride * i) (rows_apart s.nexts i k y.wide q) (not_slot i slot (omega arith) y.small)) (t.nexts i (omega arith))

    stands_are : (i : ℕ) → i < k + 1 → Dec (i ≡ k) → s.nexts + s.stride * i < length w2
    stands_are i l (yes q) = rw q (omega (arith, y.stands, long2))
    stands_are i l (no q) = omega (arith, t.stands i (omega arith), long2)

    row_slotted : Slotted row_slot w2 s (k + 1)
    row_slotted =
        record {
          room = omega (arith, y.room, long2);
          stands = λ i l. stands_are i l (ℕ_discrete i k);
          heads = λ h l. heads_are h l (ℕ_discrete h slot);
          nexts = λ i l. nexts_are i l (ℕ_discrete i k);
        }

  pub row_added : RowAdded w w2 s slot k
  row_added = record { slotted = λ row_slot t e. row_slotted t e; long = long2; only = record { word = λ i o. kept i o.0 o.1.0 } }
    where
      kept : (i : ℕ) → (i < s.heads) ⊎ (s.heads + s.count ≤ i) → (i < s.nexts + s.stride * k) ⊎ (s.nexts + s.stride * k + 1 ≤ i) → get_or w2 i 0 ≡ get_or w i 0
      kept i (inl a) (inl b) = other i (λ z. omega arith) (λ z. omega arith)
      kept i (inl a) (inr b) = other i (λ z. omega arith) (λ z. omega arith)
      kept i (inr a) (inl b) = other i (λ z. omega arith) (λ z. omega (arith, y.small))
      kept i (inr a) (inr b) = other i (λ z. omega arith) (λ z. omega (arith, y.small))
