-- What the search for the segment of a name says: its number, and its sequence. Assumes nothing.
use Prim.Native.Nat.{ℕ, ◌<◌}
use mathlib.Core.List.{List}
use Rattle.std.specs.Prelude.{Option, None, Some}
use mathlib.Core.Path.{◌≡◌, sym, ap, ◌∙◌}
use Rattle.gfa_spec.specs.Records.{sequence_of, segment_number}
use Rattle.tables.specs.declared.tables.Bases.{Bases}
use Rattle.tables.specs.declared.tables.Counts.{Counts}
use Rattle.scan.specs.declared.places.Place.{Place}
use Rattle.scan.specs.Places.{bytes_in}
use Rattle.tables.specs.declared.rows.SegmentWords.{SegmentWords}
use Rattle.tables.specs.declared.entry.SegmentNo.{SegmentNo}
use Rattle.tables.specs.ByNumber.{segment_no, segments_of, SegmentIs, NamedIs}
use Rattle.tables.proofs.Numbers.{found_at, found_nothing, none_sequence, some_sequence}
use Rattle.tables.proofs.ByNumber.{segments_nth}

module _ {text work : List ℕ} {b : Bases} {n : Counts} {name : Place} {r : Option SegmentNo} (h : NamedIs text work b n name r) where
  -- segment k was found: it is the first so named, it is one of the table, and the name has its sequence
  module _ {k : ℕ} (e : r ≡ Some (record { 0 = k })) where
    pub named_number : segment_number (segments_of text work b n) (bytes_in text name) ≡ Some k
    named_number = found_at (segment_number (segments_of text work b n) (bytes_in text name)) k (sym h.answer ∙ e)

    pub named_below : k < n.segs
    named_below = rw e at h.below

    pub named_sequence : {s : SegmentWords} → SegmentIs text work b k s → sequence_of (segments_of text work b n) (bytes_in text name) ≡ Some (bytes_in text s.sequence)
    named_sequence q =
        let d = segment_no text work b 0 in
        some_sequence (segments_of text work b n) (bytes_in text name) k d named_number
        ∙ ap (λ s. Some s.sequence) (segments_nth text work b n.segs k d named_below ∙ q.segment)

  -- none was found
  module _ (e : r ≡ None) where
    pub unnamed_number : segment_number (segments_of text work b n) (bytes_in text name) ≡ None
    unnamed_number = found_nothing (segment_number (segments_of text work b n) (bytes_in text name)) (sym h.answer ∙ e)

    pub unnamed_sequence : sequence_of (segments_of text work b n) (bytes_in text name) ≡ None
    unnamed_sequence = none_sequence (segments_of text work b n) (bytes_in text name) unnamed_number
