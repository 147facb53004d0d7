-- One new segment more: its row is stored behind the others, and into the slot of its unit. Assumes nothing.
use Prim.Native.Nat.{ℕ, suc, ◌+◌, ◌*◌, ◌≤◌, ◌<◌}
use native.Mathlib.Decide.{dec_lt, ℕ_discrete}
use native.Mathlib.Numerals.{add-one}
use native.Mathlib.Omega.{arith}
use mathlib.Core.List.{List, [], ◌∷◌, ◌++◌}
use mathlib.Core.Logic.{inl, inr}
use mathlib.Core.Path.{◌≡◌, refl, sym, ap, ◌∙◌}
use lib.ListN.{length, get_or}
use Rattle.gfa_spec.specs.Bytes.{repeat}
use Rattle.gfa_spec.specs.Decimal.{largest64}
use Rattle.gfa_spec.specs.Runs.{Run}
use Rattle.normalize_spec.specs.Folding.{new_segment, make_segment}
use Rattle.tables.specs.declared.entry.SegmentNo.{SegmentNo}
use Rattle.work.specs.Rows.{word_of, Outside, span}
use Rattle.work.proofs.Rows.{each_more, only_kept, outside_less}
use Rattle.tables.specs.declared.tables.Bases.{Bases}
use Rattle.tables.specs.declared.tables.Counts.{Counts}
use Rattle.tables.specs.ByNumber.{segment_no, segments_of}
use Rattle.tables.proofs.ByNumber.{TablesKept, segment_stands}
use Rattle.normalize_tables.specs.declared.layout.Layout.{Layout}
use Rattle.normalize_tables.specs.declared.rows.NewSegmentWords.{NewSegmentWords}
use Rattle.normalize_tables.specs.News.{segment_words, new_id_of, new_at, names_at, Agree, Suffixed}
use Rattle.normalize_tables.specs.NewByNumber.{unit_slots, NewSegmentPut, KeptTo, SegmentsKept, PathsKept}
use Rattle.normalize_tables.proofs.Nodes.{names_length, news_more, names_more}
use Rattle.normalize_tables.proofs.NewByNumber.{segment_kept, segments_words, steps_words, paths_words, unit_kept, count_kept, suffix_kept}
use Rattle.normalize_tables.proofs.NewsKept.{segment_rows_kept, new_kept, news_kept, names_kept}
use Rattle.new_ids.proofs.Suffixes.{RowAdded, suffixed_number, suffixed_name}
use Rattle.slots.specs.Slots.{Addable, RowAdded as SlotAdded}
use Rattle.slots.proofs.Slotting.{slotted_same}
use Rattle.new_segs.specs.Chains.{UnitsSlotted}
use Rattle.new_segs.specs.Makes.{next_at, made_at, Making, SuffixFor, Wanted, RowFor, Frame, SegmentMade}
use Rattle.new_segs.proofs.Chaining.{units_kept}
use Rattle.new_segs.proofs.Keeping.{of_text, low_stands, source_low}
use Rattle.new_segs.proofs.Lookups.{unit_sequence}
use Rattle.gfa_spec.proofs.Each.{nth_front}

-- The words after new segment q, of a unit and a run length, was put behind the others.
pub record Put (n : Counts) (g : Layout) (q unit count suffix : ℕ) (w w' : List ℕ) : Type 0 where
  pub long : length w' ≡ length w
  pub low : KeptTo g.last w w'
  pub paths : PathsKept g n.paths w w'
  pub segs : SegmentsKept g q w w'
  pub behind : (i : ℕ) → g.steps ≤ i → get_or w' i 0 ≡ get_or w i 0
  pub unit_is : (segment_words w' g q).unit.0 ≡ unit
  pub count_is : (segment_words w' g q).count ≡ count
  pub suffix_is : (segment_words w' g q).suffix ≡ suffix
  pub slotted : UnitsSlotted w' n g (q + 1)

-- the row of the next new segment
pub row_for : {text w : List ℕ} {b : Bases} {n : Counts} {g : Layout} {first q count suffix : ℕ} {unit : SegmentNo} → Wanted text w b n g first q unit.0 count
    → SuffixFor text w b n g first q unit.0 count suffix → RowFor text w b n g first q unit.0 count (record { unit = unit; count = count; suffix = suffix })
row_for x t =
    let s = x.making.source in
    let l = s.placed in
    let f = s.readable.few in
    record {
      of_unit = refl;
      of_count = refl;
      of_suffix = t;
      room = omega (arith, x.room);
      small = (omega (arith, x.few), omega (arith, t.few, x.room), omega (arith, x.room));
    }

-- by two stores: the row, and its word of the slots with that of its unit's slot
module _ {text w v : List ℕ} {b : Bases} {n : Counts} {g : Layout} {first q unit count : ℕ} {x : NewSegmentWords} (want : Wanted text w b n g first q unit count)
    (f : RowFor text w b n g first q unit count x) (r : NewSegmentPut w v g q x) where
  pub add_room : Addable v (unit_slots n g) unit q
  add_room =
      let l = want.making.source.placed in
      record {
        small = want.there;
        few = f.small.2;
        room = omega (arith, r.long);
        stands = omega (arith, r.long, f.room);
        wide = omega arith;
        apart = λ i h. inr (omega arith);
      }

  -- those before it are in their slots
  units1 : UnitsSlotted v n g q
  units1 =
      let l = want.making.source.placed in
      units_kept n g
      (segments_words g q (only_kept g.segs (g.segs + 4 * q) r.only (inl (omega arith), tt))) r.long
      (only_kept g.last (g.last + n.segs) r.only (inl (omega (arith, l.paths, l.segs)), tt)) want.making.slotted

  module _ {w' : List ℕ} (o : SlotAdded v w' (unit_slots n g) unit q) where
    -- the second store leaves what the rows say
    same : (i : ℕ) → i < q + 1 → segment_words w' g i ≡ segment_words v g i
    same i h =
        let l = want.making.source.placed in
        segment_kept g i (only_kept (g.segs + 4 * i) (g.segs + 4 * i + 3) o.only (inr (omega (arith, l.paths, l.segs)), (inl (omega arith), tt)))

    own : segment_words w' g q ≡ x
    own = same q (omega arith) ∙ r.words

    -- a word that is neither in the row nor a slot's
    other : (i : ℕ) → Outside i (span (g.segs + 4 * q) (g.segs + 4 * (q + 1)) ∷ span g.last (g.last + n.segs) ∷ []) → get_or w' i 0 ≡ get_or w i 0
    other i h =
        o.only.word i (h.1.0, (outside_less (g.segs + 3 + 4 * q) (g.segs + 3 + 4 * q + 1) h.0 (omega arith) (omega arith), tt))
        ∙ r.only.word i (h.0, tt)

    stored : Put n g q unit count x.suffix w w'
    stored =
        let l = want.making.source.placed in
        record {
          long = o.long ∙ r.long;
          low = record { word = λ i a. other i (inl (omega (arith, l.paths, l.segs)), (inl (omega arith), tt)) };
          paths = paths_words g n.paths (record { word = λ i a b. other i (inl (omega (arith, l.segs)), (inr (omega (arith, l.paths)), tt)) });
          segs = segments_words g q (record { word = λ i a b. other i (inl b, (inr (omega (arith, l.paths, l.segs)), tt)) });
          behind = λ i a. other i (inr (omega (arith, l.steps, want.room)), (inr (omega (arith, l.paths, l.segs, l.steps)), tt));
          unit_is = ap (λ x. x.unit.0) own ∙ f.of_unit;
          count_is = ap (λ x. x.count) own ∙ f.of_count;
          suffix_is = ap (λ x. x.suffix) own;
          slotted =
              slotted_same (λ j. (segment_words w' g j).unit.0) (λ j h. ap (λ x. x.unit.0) (same j h))
              (o.slotted (λ j. (segment_words v g j).unit.0) units1 (ap (λ x. x.unit.0) r.words ∙ f.of_unit));
        }

-- ---- what the tables say then

module _ {text w w' : List ℕ} {b : Bases} {n : Counts} {g : Layout} {first q unit count suffix : ℕ} (x : Wanted text w b n g first q unit count)
    (t : SuffixFor text w b n g first q unit count suffix) (p : Put n g q unit count suffix w w') where
  kept : TablesKept b n w w'
  kept = of_text x.making.source p.low

  -- the new segment
  new_is : new_at text b g first w' q
      ≡ record { unit = (segment_no text w b unit).id; count = count; id = new_id_of first q (segment_no text w b unit).id count suffix; sequence = repeat count (segment_no text w b unit).sequence }
  unfolding new_at
  new_is = rw (p.unit_is, p.count_is, p.suffix_is, segment_stands x.making.source.readable kept unit x.there)

  old_names : names_at text w' b n g first q ≡ names_at text w b n g first q
  old_names = names_kept x.making.source kept first x.making.rows p.segs

  all_names : names_at text w' b n g first (suc q) ≡ names_at text w b n g first q ++ ((new_at text b g first w' q).id ∷ [])
  all_names = names_more text w' b n g first q ∙ rw old_names

  names_agree : Agree (n.segs + q) (names_at text w b n g first q) (names_at text w' b n g first (suc q))
  names_agree = record { same_name = λ k l. rw all_names (nth_front k (names_at text w b n g first q) ((new_at text b g first w' q).id ∷ []) [] (omega (arith, names_length text w b n g first q))) }

  module _ (run : Run) (e : run.step.name.bytes ≡ (segment_no text w b unit).id) (f : run.count ≡ count) where
    new_more : new_at text b g first w' q ≡ new_segment (segments_of text w b n) run (made_at (segments_of text w b n) text w b g first q)
    unfolding made_at new_segment
    new_more = new_is ∙ rw (e, f, unit_sequence text w b n unit x.there x.making.source.apart, t.id) (unfold names_at in refl)

    made_more : made_at (segments_of text w b n) text w' b g first (suc q)
        ≡ make_segment (segments_of text w b n) run (made_at (segments_of text w b n) text w b g first q)
    unfolding made_at make_segment next_at
    made_more = rw (news_more text w' b n g first q, news_kept x.making.source kept first x.making.rows p.segs, new_more) (unfold made_at in refl)

  -- what is kept
  put_frame : Frame g n.paths n.steps w w'
  put_frame =
      let s = x.making.source.placed in
      record {
        long = p.long;
        low = p.low;
        paths = p.paths;
        steps = steps_words g n.steps (record { word = λ i l k. p.behind i l });
        high = λ i l. p.behind i (omega (arith, s.added));
      }

  row_added : RowAdded text w w' b n g first q unit count suffix
  row_added =
      record {
        names = old_names;
        rows = λ j l. new_kept x.making.source kept first x.making.rows p.segs j l;
        words = λ j l. suffix_kept g p.segs j l;
        of_unit = rw new_is;
        of_count = rw new_is;
        of_suffix = p.suffix_is;
      }

  put_suffixed : Suffixed text w' b n g first (suc q)
  put_suffixed = go (dec_lt (first + q) largest64)
    where
      go : Dec (first + q < largest64) → Suffixed text w' b n g first (suc q)
      go (yes l) = suffixed_number (omega arith)
      go (no l) = suffixed_name row_added x.making.suffixed (t.named (omega arith))

  put_alone : (i j : ℕ) → i < j → j < suc q → (segment_words w' g i).unit.0 ≡ (segment_words w' g j).unit.0 → (segment_words w' g i).count ≡ (segment_words w' g j).count → ⊥
  put_alone i j l k u c = go (ℕ_discrete j q)
    where
      go : Dec (j ≡ q) → ⊥
      go (yes e) =
          let unit-there : (segment_words w g i).unit.0 ≡ unit = sym (unit_kept g p.segs i (omega arith)) ∙ u ∙ rw e p.unit_is in
          let count-there : (segment_words w g i).count ≡ count = sym (count_kept g p.segs i (omega arith)) ∙ c ∙ rw e p.count_is in
          x.fresh.later i (unfold word_of in omega arith) (omega arith) (record { of_unit = unit-there; of_count = count-there })
      go (no e) =
          let low : i < q = omega arith in
          let high : j < q = omega arith in
          x.making.alone i j l high (sym (unit_kept g p.segs i low) ∙ u ∙ unit_kept g p.segs j high) (sym (count_kept g p.segs i low) ∙ c ∙ count_kept g p.segs j high)

  put_making : Making text w' b n g first (suc q)
  put_making =
      record {
        source = source_low x.making.source p.low p.long;
        first_is = rw (low_stands x.making.source p.low).of_segments x.making.first_is;
        half = omega (arith, x.room);
        rows =
            each_more (segment_rows_kept n g x.making.rows p.segs)
            (record { unit = rw p.unit_is x.there; count = rw p.count_is x.few; suffix = rw p.suffix_is (omega (arith, t.few)) });
        suffixed = put_suffixed;
        alone = put_alone;
        slotted = rw add-one at p.slotted;
      }

  segment_is : SegmentMade text w w' b n g first q unit count
  segment_is = record { making = rw add-one put_making; made = λ run e f. rw add-one (made_more run e f); new = new_more; names = rw add-one names_agree; frame = put_frame }

-- by the two stores
pub segment_made : {text w v w' : List ℕ} {b : Bases} {n : Counts} {g : Layout} {first q unit count : ℕ} {x : NewSegmentWords} → Wanted text w b n g first q unit count
    → RowFor text w b n g first q unit count x → NewSegmentPut w v g q x → SlotAdded v w' (unit_slots n g) unit q → SegmentMade text w w' b n g first q unit count
segment_made x f r o = segment_is x f.of_suffix (stored x f r o)
