-- What an L line says. Document 01, refusals 7 to 11.
use Rattle.std.specs.Prelude.{Result, Ok, Err, false, [], ◌∷◌}
use Rattle.refusals.specs.declared.reason.Reason.{Reason}
use Rattle.refusals.specs.Reasons.{number_of}
use Rattle.scan.specs.declared.orientation.Orientation.{Orientation}
use Rattle.scan.specs.Orientations.{sign_of}
use Rattle.std.specs.Prelude.{ℕ, ◌+◌, ◌≤◌, List, ◌≡◌, length}
use Rattle.gfa_spec.specs.Bytes.{part}
use Rattle.gfa_spec.specs.Reading.{Read, link, accepted, refused, fields, field, is_orientation, parse_orientation, parse_l}
use Rattle.scan.specs.Places.{part_at, FoundAt}
use Rattle.scan.specs.declared.places.Place.{Place}
use Rattle.tables.specs.declared.rows.LinkWords.{LinkWords}
use Rattle.lines.specs.Columns.{HasColumn}

-- by the cases of the answer to one byte
abbrev pub ByteSays : {R : Type 0} → ℕ → R → Result Orientation R → Type 0
ByteSays b other (Ok o) = b ≡ sign_of o
ByteSays b other (Err k) = (is_orientation b ≡ false) × (k ≡ other)

-- by the cases of the field
abbrev pub SignReadSays : {R : Type 0} → List ℕ → R → R → Result Orientation R → Type 0
SignReadSays [] empty other r = r ≡ Err empty
SignReadSays (b ∷ []) empty other r = ByteSays b other r
SignReadSays (b ∷ (c ∷ bs)) empty other r = r ≡ Err other

-- What is said of a field that is to hold an orientation, whatever stands for its refusals: one where it is empty, and the other where it is no single sign.
pub record SignRead {R : Type 0} (s : List ℕ) (empty other : R) (r : Result Orientation R) : Type 0 where
  pub says : SignReadSays s empty other r

-- an answer as the definitions have it, by the numbers of its refusals
abbrev pub read_by : {R : Type 0} → (R → ℕ) → Result Orientation R → Read ℕ
read_by number (Ok o) = accepted (sign_of o)
read_by number (Err k) = refused (number k)

-- by the cases of the answer
abbrev pub SignSays : ℕ → List ℕ → Result Orientation Reason → Type 0
SignSays n s (Ok o) = parse_orientation n s ≡ accepted (sign_of o)
SignSays n s (Err k) = parse_orientation n s ≡ refused (number_of k)

-- What is said of a field that is to hold an orientation; n is its refusal where it is empty.
pub record SignIs (n : ℕ) (s : List ℕ) (r : Result Orientation Reason) : Type 0 where
  pub says : SignSays n s r

-- An end of the link: its segment's name stands in the column `name`, and its orientation in the column `mark`.
pub record EndHolds (text : List ℕ) (start size name mark n : ℕ) (p : Place) (o : Orientation) : Type 0 where
  pub segment : FoundAt text start size name p.start p.size
  pub reads : parse_orientation n (field mark (fields (part_at text start size))) ≡ accepted (sign_of o)

-- The orientation in the column `mark` is refused.
pub record EndRefused (text : List ℕ) (start size mark n k : ℕ) : Type 0 where
  pub reads : parse_orientation n (field mark (fields (part_at text start size))) ≡ refused k

-- by the cases of the answer
abbrev pub EndReadSays : {R : Type 0} → List ℕ → ℕ → ℕ → ℕ → ℕ → R → R → Result (Place × Orientation) R → Type 0
EndReadSays text start size name mark empty other (Ok p) =
    FoundAt text start size name p.0.start p.0.size × SignRead (field mark (fields (part_at text start size))) empty other (Ok p.1)
EndReadSays text start size name mark empty other (Err k) = SignRead (field mark (fields (part_at text start size))) empty other (Err k)

-- What is said of an end of a link, whatever stands for the refusals of its orientation.
pub record EndRead {R : Type 0} (text : List ℕ) (start size name mark : ℕ) (empty other : R) (r : Result (Place × Orientation) R) : Type 0 where
  pub says : EndReadSays text start size name mark empty other r

-- by the cases of the answer
abbrev pub EndSays : List ℕ → ℕ → ℕ → ℕ → ℕ → ℕ → Result (Place × Orientation) Reason → Type 0
EndSays text start size name mark n (Ok p) = EndHolds text start size name mark n p.0 p.1
EndSays text start size name mark n (Err k) = EndRefused text start size mark n (number_of k)

-- What is said of an end of a link.
pub record EndIs (text : List ℕ) (start size name mark n : ℕ) (r : Result (Place × Orientation) Reason) : Type 0 where
  pub says : EndSays text start size name mark n r

-- The L line is accepted, and is what the words say.
pub record LinkHolds (text : List ℕ) (start size : ℕ) (w : LinkWords) : Type 0 where
  pub columns : HasColumn text start size 5
  pub first : w.line.start ≡ start
  pub long : w.line.size ≡ size
  pub from : w.from.start + w.from.size ≤ length text
  pub to : w.to.start + w.to.size ≤ length text
  pub read : parse_l (part_at text start size) (fields (part_at text start size))
      ≡ accepted
      (link
      (record {
        from = part w.from.start w.from.size text;
        from_orientation = sign_of w.leaves;
        to = part w.to.start w.to.size text;
        to_orientation = sign_of w.enters;
        line = part start size text;
      }))

-- The L line is refused with this number.
pub record LinkRefused (text : List ℕ) (start size k : ℕ) : Type 0 where
  pub read : parse_l (part_at text start size) (fields (part_at text start size)) ≡ refused k

-- by the cases of the answer
abbrev pub LinkSays : List ℕ → ℕ → ℕ → Result LinkWords Reason → Type 0
LinkSays text start size (Ok w) = LinkHolds text start size w
LinkSays text start size (Err k) = LinkRefused text start size (number_of k)

-- What is said of an L line whose fields were read.
pub record LinkFieldsAre (text : List ℕ) (start size : ℕ) (r : Result LinkWords Reason) : Type 0 where
  pub says : LinkSays text start size r
