-- Segments stay in the slots of their IDs, and one more is put there. Assumes nothing.
use Prim.Native.Nat.{ℕ, ◌+◌, ◌*◌, ◌-◌, ◌≤◌, ◌<◌}
use native.Mathlib.Decide.{ℕ_discrete}
use native.Mathlib.Omega.{arith}
use mathlib.Core.List.{List, [], ◌∷◌}
use mathlib.Core.Logic.{inl, inr}
use mathlib.Core.Path.{◌≡◌, ap, sym, ◌∙◌}
use lib.ListN.{length}
use lib.Seq.{sets, length-sets}
use Rattle.gfa_spec.specs.Sums.{name_sum}
use Rattle.scan.specs.declared.places.Place.{Place}
use Rattle.scan.specs.Places.{bytes_in}
use Rattle.slots.specs.Slots.{SlotsCleared, SlotIs, Addable, RowAdded}
use Rattle.tables.specs.declared.tables.Bases.{Bases}
use Rattle.tables.specs.declared.rows.SegmentWords.{SegmentWords}
use Rattle.tables.specs.ByNumber.{place_at, segment_words}
use Rattle.tables.specs.Segments.{segment_at, SegmentRow}
use Rattle.tables.specs.Names.{slots_of, id_no, slot_of, NamesSlotted, NamesCleared, Insertable, Inserted}
use Rattle.work.specs.Rows.{span, Only}
use Rattle.work.proofs.Rows.{KeptWords, only_put, only_then, only_kept, kept_within, outside_less}
use Rattle.slots.proofs.Slotting.{slotted_same, slotted_kept}
use Rattle.tables.proofs.TableRows.{segment_kept, segment_row_kept, segment_put, segment_row_put}

-- the ID of a segment, by the place that its row says
pub id_is : (text work : List ℕ) (b : Bases) (k : ℕ) {id : Place} → id ≡ place_at work (b.segs + 7 * k + 2) → id_no text work b k ≡ bytes_in text id
unfolding segment_at
id_is text work b k q =
    let at : b.segs + 7 * k + 2 + 1 ≡ b.segs + 7 * k + 3 = omega arith in
    rw (q, at)

-- ---- what is kept

-- where the rows of the segments and the words of the slots are
pub names_slotted_kept : {w w' : List ℕ} (text : List ℕ) (b : Bases) (n : ℕ) → b.heads < b.links → length w' ≡ length w → KeptWords b.segs (b.segs + 7 * n) w w'
    → KeptWords b.heads b.links w w'
    → NamesSlotted text w b n → NamesSlotted text w' b n
names_slotted_kept {w} {w'} text b n some long rows heads s =
    record {
      slotted =
          slotted_same (λ k. slot_of b (name_sum (id_no text w' b k))) (λ k h. ap (λ x. slot_of b (name_sum x)) (id_kept k h))
          (slotted_kept long (kept_within b.heads (b.heads + (b.links - b.heads)) heads (omega arith) (omega arith)) (λ k h. rows.word (b.segs + 6 + 7 * k) (omega arith) (omega arith)) s.slotted);
      once = λ i k h l q. s.once i k h l (sym (id_kept i (omega arith)) ∙ q ∙ id_kept k l);
    }
  where
    id_kept : (k : ℕ) → k < n → id_no text w' b k ≡ id_no text w b k
    id_kept k h = ap (λ s. s.id) (segment_kept rows text (b.segs + 7 * k) (omega arith) (omega arith))

-- ---- none

pub names_cleared : {w w' : List ℕ} {b : Bases} → b.heads < b.links → SlotsCleared w w' (slots_of b) → NamesCleared w w' b
names_cleared {w} {w'} {b} h c =
    let e : b.heads + (b.links - b.heads) ≡ b.links = omega arith in
    record {
      names = λ text. record { slotted = c.slotted (λ k. slot_of b (name_sum (id_no text w' b k))); once = λ i k a l q. absurd (omega arith) };
      long = c.long;
      only = rw e at c.only;
    }

-- ---- one more

module _ {text w w1 : List ℕ} {b : Bases} {k : ℕ} {s : SegmentWords} (y : Insertable text w b k s) (q : w1 ≡ sets w (b.segs + 7 * k) (segment_words s)) where
  long1 : length w1 ≡ length w
  long1 = rw q (length-sets w (b.segs + 7 * k) (segment_words s))

  only1 : Only (span (b.segs + 7 * k) (b.segs + 7 * k + 6) ∷ []) w w1
  only1 = rw q (only_put (segment_words s) w (b.segs + 7 * k))

  segment1 : segment_at text w1 (b.segs + 7 * k) ≡ record { id = bytes_in text s.id; sequence = bytes_in text s.sequence; line = bytes_in text s.line }
  segment1 = rw q (segment_put text w (b.segs + 7 * k) s.line.start s.line.size s.id.start s.id.size s.sequence.start s.sequence.size (omega (arith, y.segs, y.heads, y.room)))

  row1 : SegmentRow text w1 (b.segs + 7 * k)
  row1 = rw q (segment_row_put text w (b.segs + 7 * k) s.line.start s.line.size s.id.start s.id.size s.sequence.start s.sequence.size (omega (arith, y.segs, y.heads, y.room)) y.line y.id y.sequence)

  -- those before it are in their slots
  names1 : NamesSlotted text w1 b k
  names1 =
      names_slotted_kept text b k y.heads long1
      (only_kept b.segs (b.segs + 7 * k) only1 (inl (omega arith), tt))
      (only_kept b.heads b.links only1 (inr (omega (arith, y.segs)), tt)) y.names

  module _ {slot : ℕ} (l : SlotIs (name_sum (bytes_in text s.id)) (b.links - b.heads) slot) where
    pub insert_room : Addable w1 (slots_of b) slot k
    insert_room =
        record {
          small = l.small;
          few = omega (arith, y.few);
          room = omega (arith, y.heads, y.room, long1);
          stands = omega (arith, y.segs, y.heads, y.room, long1);
          wide = omega arith;
          apart = λ i h. inl (omega (arith, y.segs));
        }

    module _ {w2 : List ℕ} (a : RowAdded w1 w2 (slots_of b) slot k) where
      -- rows up to its own say what they said
      row_same : (i : ℕ) → i ≤ k → KeptWords (b.segs + 7 * i) (b.segs + 7 * i + 6) w1 w2
      row_same i h = only_kept (b.segs + 7 * i) (b.segs + 7 * i + 6) a.only (inl (omega (arith, y.segs)), (inl (omega arith), tt))

      same : (i : ℕ) → i ≤ k → segment_at text w2 (b.segs + 7 * i) ≡ segment_at text w1 (b.segs + 7 * i)
      same i h = segment_kept (row_same i h) text (b.segs + 7 * i) (omega arith) (omega arith)

      id_same : (i : ℕ) → i ≤ k → id_no text w2 b i ≡ id_no text w1 b i
      id_same i h = ap (λ s. s.id) (same i h)

      own_id : id_no text w1 b k ≡ bytes_in text s.id
      own_id = ap (λ s. s.id) segment1

      once : (i j : ℕ) → i < j → Dec (j ≡ k) → j < k + 1 → id_no text w1 b i ≡ id_no text w1 b j → ⊥
      once i j h (yes e) m p = y.fresh i (omega arith) (sym (id_old i (omega arith)) ∙ p ∙ rw e own_id)
        where
          id_old : (i : ℕ) → i < k → id_no text w1 b i ≡ id_no text w b i
          id_old i h = ap (λ s. s.id) (segment_kept (only_kept b.segs (b.segs + 7 * k) only1 (inl (omega arith), tt)) text (b.segs + 7 * i) (omega arith) (omega arith))
      once i j h (no d) m p = names1.once i j h (omega arith) p

      pub inserted : Inserted text w w2 b k s
      inserted =
          record {
            segment = same k (omega arith) ∙ segment1;
            row = segment_row_kept (row_same k (omega arith)) text (b.segs + 7 * k) (omega arith) (omega arith) row1;
            names =
                record {
                  slotted =
                      slotted_same (λ i. slot_of b (name_sum (id_no text w2 b i))) (λ i h. ap (λ x. slot_of b (name_sum x)) (id_same i (omega arith)))
                      (a.slotted (λ i. slot_of b (name_sum (id_no text w1 b i))) names1.slotted (ap (λ x. slot_of b (name_sum x)) own_id ∙ sym l.is));
                  once = λ i j h m p. once i j h (ℕ_discrete j k) m (sym (id_same i (omega arith)) ∙ p ∙ id_same j (omega arith));
                };
            long = a.long ∙ long1;
            only =
                only_then (span (b.segs + 7 * k) (b.segs + 7 * k + 7) ∷ span b.heads b.links ∷ []) only1 a.only
                (λ i o. (
                  (outside_less (b.segs + 7 * k) (b.segs + 7 * k + 6) o.0 (omega arith) (omega arith), tt),
                  (
                    outside_less b.heads (b.heads + (b.links - b.heads)) o.1.0 (omega arith) (omega (arith, y.heads)),
                    (outside_less (b.segs + 6 + 7 * k) (b.segs + 6 + 7 * k + 1) o.0 (omega arith) (omega arith), tt),
                  ),
                ));
          }
