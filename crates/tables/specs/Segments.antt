-- The segment table, and the search for a name in it. Document 01, "Reading": segment numbers count from 0.
use Rattle.std.specs.Prelude.{ℕ, ◌+◌, ◌≤◌, ◌<◌, List, map, length, get_or}
use Rattle.std.specs.Prelude.{Option, None, Some, option_map}
use Rattle.tables.specs.declared.entry.SegmentNo.{SegmentNo}
use Rattle.gfa_spec.specs.Bytes.{part}
use Rattle.gfa_spec.specs.Reading.{Segment}
use Rattle.work.specs.Rows.{rows_at}

-- the segment whose row is at the word `at`: start and length of its line, of its ID and of its sequence
unfoldable pub segment_at : List ℕ → List ℕ → ℕ → Segment
segment_at text work at =
    record {
      id = part (get_or work (at + 2) 0) (get_or work (at + 3) 0) text;
      sequence = part (get_or work (at + 4) 0) (get_or work (at + 5) 0) text;
      line = part (get_or work at 0) (get_or work (at + 1) 0) text;
    }

-- the first n segments of the table at `base`
unfoldable pub segments_at : List ℕ → List ℕ → ℕ → ℕ → List Segment
segments_at text work base n = rows_at (segment_at text) 7 work base n

-- A segment's row names parts of the text.
pub record SegmentRow (text work : List ℕ) (at : ℕ) : Type 0 where
  pub line : get_or work at 0 + get_or work (at + 1) 0 ≤ length text
  pub id : get_or work (at + 2) 0 + get_or work (at + 3) 0 ≤ length text
  pub sequence : get_or work (at + 4) 0 + get_or work (at + 5) 0 ≤ length text

-- the IDs of segments
unfoldable pub ids_of : List Segment → List (List ℕ)
ids_of ss = map (λ s. s.id) ss

-- a segment's number, as the program's type has it
abbrev pub segment_found : Option ℕ → Option SegmentNo
segment_found o = option_map (λ k. record { 0 = k }) o

-- a segment that was found is one of the first n
abbrev pub FoundBelow : ℕ → Option SegmentNo → Type 0
FoundBelow n (Some k) = k.0 < n
FoundBelow n None = Unit {0}
