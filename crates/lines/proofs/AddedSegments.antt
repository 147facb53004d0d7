-- S lines: refused, or a segment more. Assumes nothing.
use Rattle.std.specs.Prelude.{Result, Ok, Err, Option, None, Some}
use Rattle.refusals.specs.declared.reason.Reason.{Reason}
use Rattle.refusals.specs.declared.reason.Reason.TheVariants.{KnownSegment}
use Prim.Native.Nat.{ℕ, ◌+◌, ◌*◌, ◌≤◌}
use native.Mathlib.Numerals.{add-one}
use native.Mathlib.Omega.{arith}
use mathlib.Core.List.{List}
use mathlib.Core.Path.{◌≡◌, refl, ◌∙◌}
use lib.ListN.{length}
use borrow.Author.Tests.{lt-ltb, le-ltb}
use Rattle.tables.specs.declared.entry.Record.TheVariants.{Segment}
use Rattle.lines.specs.declared.sort.Sort.TheVariants as sort
use Rattle.tables.specs.declared.tables.Bases.{Bases}
use Rattle.tables.specs.declared.tables.Counts.{Counts}
use Rattle.gfa_spec.specs.Reading.{fields, parse_s}
use Rattle.scan.specs.Places.{part_at, FewFields}
use Rattle.tables.specs.declared.entry.SegmentNo.{SegmentNo}
use Rattle.tables.specs.declared.rows.SegmentWords.{SegmentWords}
use Rattle.lines.specs.SegmentLines.{SegmentHolds, SegmentFieldsAre}
use Rattle.tables.specs.ByNumber.{FoundIs}
use Rattle.tables.specs.Names.{NamesSlotted, Insertable, Inserted}
use Rattle.lines.specs.Sorts.{SortIs, read_as}
use Rattle.tables.specs.Tables.{one_more}
use Rattle.tables.specs.Entries.{entry_of}
use Rattle.lines.specs.Lines.{Ready, AddedIs}
use Rattle.scan.proofs.Fields.{field_bytes}
use Rattle.tables.proofs.Numbers.{found_known, found_new, found_fresh}
use Rattle.work.proofs.Rows.{only_wider, outside_less}
use Rattle.lines.proofs.Room.{column_weight, spent_segment}
use Rattle.lines.proofs.Adding.{no_steps}

module _ {text : List ℕ} {start size : ℕ} {r : Result SegmentWords Reason} (h : SegmentFieldsAre text start size r) where
  segment_holds : {w : SegmentWords} → r ≡ Ok w → SegmentHolds text start size w
  segment_holds e = rw e at h.says

  -- the ID is a part of the text
  pub segment_id : {w : SegmentWords} → r ≡ Ok w → w.id.start + w.id.size ≤ length text
  segment_id e = (segment_holds e).id.inside

-- there is room for a segment whose ID is new
pub s_insertable : {text work : List ℕ} {b : Bases} {n : Counts} {start size : ℕ} {r : Result SegmentWords Reason} → SegmentFieldsAre text start size r → {w : SegmentWords} → r ≡ Ok w
    → {f : Option SegmentNo} → FoundIs text work b n.segs w.id f → f ≡ None → Ready text work b n start size → NamesSlotted text work b n.segs → Insertable text work b n.segs w
s_insertable h e k new y names =
    let l = segment_holds h e in
    record {
      few = omega (arith, y.few);
      line = omega (arith, y.inside, l.first, l.long);
      id = l.id.inside;
      sequence = l.sequence.inside;
      short = y.short;
      segs = y.between;
      heads = y.heads;
      room = omega (arith, y.beyond, y.behind, y.room);
      names = names;
      fresh = found_fresh k new;
    }

module _ {text work work' : List ℕ} {b : Bases} {n : Counts} {start size : ℕ} {r : Result SegmentWords Reason} (s : SortIs text start size sort.Segment)
    (h : SegmentFieldsAre text start size r) where
  -- too few fields
  pub s_short : {k : Reason} → r ≡ Err k → AddedIs text work work' b n start size (Err k)
  unfolding read_as parse_s
  s_short e =
      let says = rw e at h.says in
      let few : FewFields text start size 2 = says.1 in
      record { says = record { read = s.is _ ∙ rw (says.0, lt-ltb (length (fields (part_at text start size))) 3 (omega (arith, few.few))) } }

  module _ {w : SegmentWords} (e : r ≡ Ok w) {f : Option SegmentNo} (k : FoundIs text work b n.segs w.id f) where
    -- an ID that was read before
    pub s_known : {i : SegmentNo} → f ≡ Some i → AddedIs text work work' b n start size (Err KnownSegment)
    unfolding read_as parse_s
    s_known at =
        let l = segment_holds h e in
        record { says = record { read = s.is _ ∙ rw (le-ltb (length (fields (part_at text start size))) 3 l.columns.more, field_bytes l.id, found_known k at) } }

    -- a new one
    pub s_added : {m : Counts} → f ≡ None → Ready text work b n start size → Inserted text work work' b n.segs w →
        m ≡ one_more n 1 0 0 0 → AddedIs text work work' b n start size (Ok (Segment (record { 0 = n.segs }), m))
    unfolding read_as parse_s part_at entry_of
    s_added new y q more =
        let l = segment_holds h e in
        let at = b.segs + 7 * n.segs in
        let long-enough = column_weight {k = 1} l.columns (λ z. omega (arith, s.letter)) in
        record {
          says =
              rw more
              (record {
                read =
                    s.is _
                    ∙ rw (
                      le-ltb (length (fields (part_at text start size))) 3 l.columns.more,
                      field_bytes l.id,
                      found_new k new,
                      field_bytes l.sequence,
                      q.segment,
                      l.first,
                      l.long,
                    );
                lines = add-one n.lines;
                segs = refl;
                links = refl;
                paths = refl;
                steps = omega (arith, no_steps text work' b (Segment (record { 0 = n.segs })) refl);
                row = (refl, q.row);
                visits = λ i l h. absurd (omega arith);
                spent = spent_segment text start size n y.inside (omega arith) s.letter;
                names = λ h. q.names;
                long = q.long;
                only = only_wider _ q.only (λ i o. (outside_less at (at + 7) o.1.0 (omega arith) (omega arith), (o.1.1.1.1.1.0, tt)));
              });
        }
