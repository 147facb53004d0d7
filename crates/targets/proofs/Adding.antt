-- Marks that are added: by a name, and one behind the other. Assumes nothing.
use Prim.Native.Nat.{ℕ, ◌+◌, ◌<◌}
use native.Mathlib.Omega.{arith}
use mathlib.Core.Bool.{Bool, false, ◌||◌, or-true, or-false, or_assoc}
use mathlib.Core.List.{List, [], ◌∷◌}
use mathlib.Core.Logic.{inl}
use Rattle.gfa_spec.specs.Options.{map_or}
use mathlib.Core.Path.{◌≡◌, refl, ◌∙◌}
use lib.Dec.{eqb}
use lib.ListN.{length, get_or, set, length-set}
use lib.Seq.{get_or-set_same, get_or-set_other}
use borrow.Author.Tests.{eqb-true, eqb-false}
use Rattle.gfa_spec.specs.Bytes.{same}
use Rattle.gfa_spec.specs.Reading.{Segment}
use Rattle.gfa_spec.specs.Runs.{bit}
use Rattle.gfa_spec.proofs.Tests.{by_test}
use Rattle.work.specs.Rows.{span, Only, Cleared}
use Rattle.work.proofs.Rows.{only_none, only_then, only_kept}
use Rattle.tables.specs.declared.tables.Bases.{Bases}
use Rattle.tables.specs.declared.tables.Counts.{Counts}
use Rattle.std.specs.Prelude.{Option, None, Some}
use Rattle.tables.specs.declared.entry.SegmentNo.{SegmentNo}
use Rattle.tables.proofs.Standing.{Standing, tables_stand}
use Rattle.scan.specs.declared.places.Place.{Place}
use Rattle.scan.specs.Places.{bytes_in}
use Rattle.tables.specs.ByNumber.{segment_no, tables_end, NamedIs}
use Rattle.tables.proofs.ByNumber.{TablesKept, readable_stands, segment_stands}
use Rattle.normalize_tables.specs.declared.layout.Layout.{Layout}
use Rattle.normalize_tables.specs.Layout.{Source}
use Rattle.normalize_tables.specs.Marks.{Marked}
use Rattle.tables.proofs.Named.{named_number, named_below, unnamed_number}
use Rattle.work.proofs.Filling.{only_set}
use Rattle.normalize_tables.proofs.Numbered.{row_named}
use Rattle.targets.specs.Marking.{Markable, Adds, NameMarked}

-- ---- what is kept

-- the two tables of marks
pub eligible_marks : {text w : List ℕ} {b : Bases} {n : Counts} {g : Layout} → Source text w b n g → Markable text w b n g.eligible
eligible_marks s = let p = s.placed in record { readable = s.readable; apart = s.apart; behind = p.eligible; room = omega arith }

pub folded_marks : {text w : List ℕ} {b : Bases} {n : Counts} {g : Layout} → Source text w b n g → Markable text w b n g.folded
folded_marks s = let p = s.placed in record { readable = s.readable; apart = s.apart; behind = omega arith; room = omega arith }

module _ {text w w' : List ℕ} {b : Bases} {n : Counts} {marks : ℕ} (m : Markable text w b n marks) (o : Only (span marks (marks + n.segs) ∷ []) w w') where
  -- the tables are before the marks
  pub tables_kept : TablesKept b n w w'
  tables_kept = only_kept b.lines (tables_end b n) o (inl m.behind, tt)

  pub tables_same : Standing text w w' b n
  tables_same = tables_stand m.readable.laid m.readable.sound tables_kept

  pub markable_stands : length w' ≡ length w → Markable text w' b n marks
  markable_stands e =
      record {
        readable = readable_stands m.readable tables_kept e;
        apart = rw tables_same.of_segments m.apart;
        behind = m.behind;
        room = rw e m.room;
      }

  -- marks by the segments as they were
  pub marked_by : (p : Segment → Bool) → ((i : ℕ) → i < n.segs → get_or w' (marks + i) 0 ≡ bit (p (segment_no text w b i))) → Marked p text w' b n marks
  marked_by p h = record { mark = λ i l. h i l ∙ rw (segment_stands m.readable tables_kept i l) }

-- where a mark was put
pub markable_put : {text w : List ℕ} {b : Bases} {n : Counts} {marks i : ℕ} (x : ℕ) → Markable text w b n marks → i < n.segs → Markable text (set w (marks + i) x) b n marks
markable_put {w = w} {marks = marks} {i = i} x m h = markable_stands m (only_set w (marks + i) x (omega arith) (omega arith)) (length-set w (marks + i) x)

-- where the marks were cleared
pub eligible_cleared : {text w w' : List ℕ} {b : Bases} {n : Counts} {g : Layout} → Source text w b n g → Cleared w w' g.eligible n.segs → Markable text w' b n g.eligible
eligible_cleared s c = markable_stands (eligible_marks s) c.only c.long

pub folded_cleared : {text w w' : List ℕ} {b : Bases} {n : Counts} {g : Layout} → Source text w b n g → Cleared w w' g.folded n.segs → Markable text w' b n g.folded
folded_cleared s c = markable_stands (folded_marks s) c.only c.long

-- ---- marks that are added

module _ {text w : List ℕ} {b : Bases} {n : Counts} {marks : ℕ} where
  -- no mark is set
  pub cleared_marks : {w' : List ℕ} → Markable text w b n marks → Cleared w w' marks n.segs → Marked (λ s. false) text w' b n marks
  unfolding bit
  cleared_marks m c = marked_by m c.only (λ s. false) c.zeros

  -- marks that are added, by the segments as they were
  pub adds_if : {t : Segment → Bool} {w' : List ℕ} → Markable text w b n marks → Only (span marks (marks + n.segs) ∷ []) w w' → length w' ≡ length w
      → ((p : Segment → Bool) → Marked p text w b n marks → (i : ℕ) → i < n.segs → get_or w' (marks + i) 0 ≡ bit (p (segment_no text w b i) || t (segment_no text w b i)))
      → Adds t text w w' b n marks
  adds_if {t} m o e h = record { ready = markable_stands m o e; marked = λ p q. marked_by m o (λ s. p s || t s) (h p q); long = e; only = o }

  -- none is added
  pub adds_none : Markable text w b n marks → Adds (λ s. false) text w w b n marks
  adds_none r = record { ready = r; marked = λ p m. record { mark = λ i h. m.mark i h ∙ rw or-false }; long = refl; only = only_none }

  module _ {t u : Segment → Bool} {v : List ℕ} (a : Adds t text w v b n marks) where
    pub adds_alike : ((s : Segment) → t s ≡ u s) → Adds u text w v b n marks
    adds_alike e = record { ready = a.ready; marked = λ p m. record { mark = λ i h. (a.marked p m).mark i h ∙ rw (e (segment_no text v b i)) }; long = a.long; only = a.only }

    pub adds_then : {w' : List ℕ} → Adds u text v w' b n marks → Adds (λ s. t s || u s) text w w' b n marks
    adds_then {w'} c =
        record {
          ready = c.ready;
          marked = λ p m. record { mark = λ i h. (c.marked (λ s. p s || t s) (a.marked p m)).mark i h ∙ rw or_assoc };
          long = c.long ∙ a.long;
          only = only_then (span marks (marks + n.segs) ∷ []) a.only c.only (λ i o. (o, o));
        }

-- ---- a mark by a name

module _ {text w : List ℕ} {b : Bases} {n : Counts} {marks : ℕ} {name : Place} {r : Option SegmentNo} (m : Markable text w b n marks) (f : NamedIs text w b n name r) where
  pub named_none : r ≡ None → NameMarked text w w b n marks name
  unfolding map_or
  named_none e =
      record {
        adds =
            adds_if m only_none refl
            (λ p q i h. q.mark i h ∙ rw (row_named text w b n m.apart (bytes_in text name) i h, unnamed_number f e, or-false));
      }

  module _ {k : ℕ} (e : r ≡ Some (record { 0 = k })) where
    named_only : Only (span marks (marks + n.segs) ∷ []) w (set w (marks + k) 1)
    named_only = let l = named_below f e in only_set w (marks + k) 1 (omega arith) (omega arith)

    -- the segment of the number that was found is marked
    named_word : (p : Segment → Bool) → Marked p text w b n marks → (i : ℕ) → i < n.segs
        → get_or (set w (marks + k) 1) (marks + i) 0 ≡ bit (p (segment_no text w b i) || same (segment_no text w b i).id (bytes_in text name))
    unfolding map_or
    named_word p q i h =
        rw (row_named text w b n m.apart (bytes_in text name) i h, named_number f e)
        (by_test (eqb i k)
        (λ t. let z = eqb-true i k t in rw (t, or-true, z) (unfold bit in get_or-set_same w (marks + k) 1 0 (omega (arith, m.room, named_below f e))))
        (λ t. rw (t, or-false) (get_or-set_other w (marks + k) (marks + i) 1 0 (λ z. eqb-false i k t (omega arith)) ∙ q.mark i h)))

    pub named_marked : NameMarked text w (set w (marks + k) 1) b n marks name
    named_marked = record { adds = adds_if m named_only (length-set w (marks + k) 1) named_word }
