-- The segment of a node: its number and its sequence, by the row that was found. Assumes nothing.
use Prim.Native.Nat.{ℕ, ◌≤◌}
use native.Mathlib.Omega.{arith}
use mathlib.Core.List.{List}
use mathlib.Core.Path.{◌≡◌}
use lib.ListN.{length, length-take, length-drop}
use Rattle.std.specs.Prelude.{Option, Some, None}
use Rattle.gfa_spec.specs.Bytes.{part, same, star}
use Rattle.gfa_spec.specs.Records.{sequence_or_empty}
use Rattle.gfa_spec.specs.Sequences.{sequence_len}
use Rattle.gfa_spec.proofs.Tests.{by_test}
use Rattle.work.specs.Rows.{word_of}
use Rattle.scan.specs.declared.places.Place.{Place}
use Rattle.scan.specs.Places.{bytes_in}
use Rattle.tables.specs.declared.entry.SegmentNo.{SegmentNo}
use Rattle.tables.specs.declared.tables.Bases.{Bases}
use Rattle.tables.specs.declared.tables.Counts.{Counts}
use Rattle.tables.specs.declared.rows.SegmentWords.{SegmentWords}
use Rattle.tables.specs.Segments.{FoundBelow}
use Rattle.tables.specs.ByNumber.{SegmentIs, NamedIs}
use Rattle.tables.proofs.Named.{named_below, named_sequence, unnamed_sequence}
use Rattle.nodes.specs.declared.segment.Known.{Known}
use Rattle.nodes.specs.Table.{segment_word, KnownIs}

-- a sequence is at most as long as its bytes, and a part as the text
length_less : (seq : List ℕ) → sequence_len seq ≤ length seq
unfolding sequence_len
length_less seq = by_test (same seq star) (λ e. rw e (omega arith)) (λ e. rw e (omega arith))

part_short : (from n : ℕ) (text : List ℕ) → length (part from n text) ≤ length text
unfolding part
part_short from n text = simp (length-take, length-drop) (omega arith)

module _ {text work : List ℕ} {b : Bases} {n : Counts} {name : Place} {r : Option SegmentNo} (h : NamedIs text work b n name r) where
  pub known_none : r ≡ None → KnownIs text work b n name (record { number = r; long = 0 })
  unfolding sequence_or_empty sequence_len same star
  known_none e = record { number = h.answer; long = rw (unnamed_sequence h e, sequence_or_empty); below = h.below; short = omega arith }

  pub known_some : {k : SegmentNo} {long : ℕ} {w : SegmentWords} {s : List ℕ} → r ≡ Some k → SegmentIs text work b k.0 w → s ≡ bytes_in text w.sequence → long ≡ sequence_len s
      → KnownIs text work b n name (record { number = r; long = long })
  unfolding sequence_or_empty
  known_some {k} {long} {w} e s i l =
      let sequence = bytes_in text w.sequence in
      record {
        number = h.answer;
        long = rw (named_sequence h e s) (rw i at l);
        below = h.below;
        short = rw (l, i) (omega (arith, length_less sequence, part_short w.sequence.start w.sequence.size text));
      }

-- the word of the number is small
pub known_small : {text work : List ℕ} {b : Bases} {n : Counts} {name : Place} {r : Known} → KnownIs text work b n name r → segment_word r.number ≤ n.segs
unfolding word_of
known_small {n = n} {r = r} k = go r.number k.below
  where
    go : (o : Option SegmentNo) → FoundBelow n.segs o → segment_word o ≤ n.segs
    go None h = omega arith
    go (Some j) h = omega arith

-- what is known of a name goes on by
pub ruleset knowing = (known_none, known_some, named_below)
