-- What `parse_gfa` answers to any text and any work area: refusals 1 to 17 in their order, or the tables.
use Rattle.std.specs.Prelude.{ℕ, ◌+◌, ◌*◌, ◌≤◌, List, ◌≡◌, length}
use Rattle.std.specs.Prelude.{Result, Ok, Err, Option, None, Some}
use Rattle.refusals.specs.declared.refusal.Refusal.{Refusal}
use Rattle.refusals.specs.Refusals.{stated}
use Rattle.tables.specs.declared.tables.Bases.{Bases}
use Rattle.tables.specs.declared.tables.Counts.{Counts}
use Rattle.gfa_spec.specs.Calls as calls
use Rattle.gfa_spec.specs.Calls.{bad_byte, of_parsed, input}
use Rattle.gfa_spec.specs.Reading.{parse}
use Rattle.tables.specs.Entries.{entries_at}
use Rattle.tables.specs.Tables.{Tables}
use Rattle.reader.specs.Outcomes.{TextRead}

-- by the cases of the answer
abbrev pub BadSays : List ℕ → Option Refusal → Type 0
BadSays text None = bad_byte 0 text ≡ None
BadSays text (Some r) = bad_byte 0 text ≡ Some (stated r)

-- What the answer to a search for a bad byte says.
pub record BadIs (text : List ℕ) (r : Option Refusal) : Type 0 where
  pub says : BadSays text r

-- Nothing refuses the text before its lines are read: it is not too long (1), has no bad byte (2, 3), and the work area is not too short (4).
pub record Admits (text : List ℕ) (words : ℕ) : Type 0 where
  pub short : length text ≤ 1048576
  pub clean : bad_byte 0 text ≡ None
  pub room : 4 * length text + 64 ≤ words

-- by the cases of the answer
abbrev pub AdmissionSays : List ℕ → ℕ → Result (Unit {0}) Refusal → Type 0
AdmissionSays text words (Ok u) = Admits text words
AdmissionSays text words (Err r) = input text words ≡ calls.Input.refusal (stated r)

-- What the answer to the question says whether the lines may be read.
pub record AdmissionIs (text : List ℕ) (words : ℕ) (r : Result (Unit {0}) Refusal) : Type 0 where
  pub says : AdmissionSays text words r

-- by the cases of the answer
abbrev pub TextSays : List ℕ → List ℕ → List ℕ → Result (Bases × Counts) Refusal → Type 0
TextSays text before work (Ok p) = TextRead text before work p.0 p.1
TextSays text before work (Err r) = of_parsed (parse text) ≡ calls.Input.refusal (stated r)

-- What a refused text left in the work area is not told here: each service clears it whole, whatever the reader answered, and its contract says so.
-- What the answer to the lines of a text says: the first refusal of 5 to 17, or tables that hold what the definition reads.
pub record TextIs (text before work : List ℕ) (r : Result (Bases × Counts) Refusal) : Type 0 where
  pub says : TextSays text before work r

-- The call is accepted, and the text's entries are those of the tables.
pub record InputRead (text before work : List ℕ) (b : Bases) (n : Counts) : Type 0 where
  pub read : input text (length before) ≡ calls.entries (entries_at text work b n.lines)
  pub tables : Tables text before work b n

-- by the cases of the answer
abbrev pub InputSays : List ℕ → List ℕ → List ℕ → Result (Bases × Counts) Refusal → Type 0
InputSays text before work (Ok p) = InputRead text before work p.0 p.1
InputSays text before work (Err r) = input text (length before) ≡ calls.Input.refusal (stated r)

-- What the reader answers: the definition's refusal, or tables that hold what the definition reads.
pub record InputIs (text before work : List ℕ) (r : Result (Bases × Counts) Refusal) : Type 0 where
  pub says : InputSays text before work r
