-- What an S line says. Document 01, refusal 5.
use Rattle.std.specs.Prelude.{Result, Ok, Err}
use Rattle.refusals.specs.declared.reason.Reason.{Reason}
use Rattle.refusals.specs.Reasons.{number_of}
use Rattle.std.specs.Prelude.{ℕ, List, ◌≡◌}
use Rattle.scan.specs.Places.{FoundAt, FewFields}
use Rattle.tables.specs.declared.rows.SegmentWords.{SegmentWords}
use Rattle.lines.specs.Columns.{HasColumn}

-- The words are those of the S line.
pub record SegmentHolds (text : List ℕ) (start size : ℕ) (w : SegmentWords) : Type 0 where
  pub columns : HasColumn text start size 2
  pub first : w.line.start ≡ start
  pub long : w.line.size ≡ size
  pub id : FoundAt text start size 1 w.id.start w.id.size
  pub sequence : FoundAt text start size 2 w.sequence.start w.sequence.size

-- by the cases of the answer
abbrev pub SegmentSays : List ℕ → ℕ → ℕ → Result SegmentWords Reason → Type 0
SegmentSays text start size (Ok w) = SegmentHolds text start size w
SegmentSays text start size (Err k) = (number_of k ≡ 5) × FewFields text start size 2

-- What is said of an S line whose fields were read.
pub record SegmentFieldsAre (text : List ℕ) (start size : ℕ) (r : Result SegmentWords Reason) : Type 0 where
  pub says : SegmentSays text start size r
