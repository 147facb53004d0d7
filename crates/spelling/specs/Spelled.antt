-- What the answers of the speller say. Document 01, "Complement and spelling", and the refusals 18 and 19.
use Rattle.std.specs.Prelude.{ℕ, ◌+◌, ◌≤◌, List, length, ◌≡◌, Option, None, Some, Result, Ok, Err}
use Rattle.tables.specs.declared.tables.Bases.{Bases}
use Rattle.tables.specs.declared.tables.Counts.{Counts}
use Rattle.gfa_spec.specs.Reading.{Entry}
use Rattle.gfa_spec.specs.Records.{segments, paths, sequence_of}
use Rattle.gfa_spec.specs.Spelling as spelling
use Rattle.gfa_spec.specs.Calls as calls
use Rattle.gfa_spec.specs.Services.{bad_step}
use Rattle.scan.specs.Places.{part_at, bytes_in, Inside}
use Rattle.writers.specs.declared.writer.Writer.{Writer}
use Rattle.writers.specs.Writers.{Puts}
use Rattle.scan.specs.declared.places.Place.{Place}
use Rattle.tables.specs.ByNumber.{segments_of, paths_to}
use Rattle.refusals.specs.declared.refusal.Refusal.{Refusal}
use Rattle.refusals.specs.Reasons.{number_of}
use Rattle.refusals.specs.Refusals.{stated}

-- ---- a sequence

-- The segment that has the name has this part of the text for its sequence.
pub record SequenceAt (text work : List ℕ) (b : Bases) (n : Counts) (name seq : Place) : Type 0 where
  pub found : sequence_of (segments_of text work b n) (bytes_in text name) ≡ Some (bytes_in text seq)
  pub inside : Inside text seq

-- No segment has the name.
pub record NoSequence (text work : List ℕ) (b : Bases) (n : Counts) (name : Place) : Type 0 where
  pub missing : sequence_of (segments_of text work b n) (bytes_in text name) ≡ None

-- by the cases of the answer
abbrev pub SequenceSays : List ℕ → List ℕ → Bases → Counts → Place → Option Place → Type 0
SequenceSays text work b n name (Some seq) = SequenceAt text work b n name seq
SequenceSays text work b n name None = NoSequence text work b n name

-- What the answer to a search for a name's sequence says.
pub record SequenceIs (text work : List ℕ) (b : Bases) (n : Counts) (name : Place) (r : Option Place) : Type 0 where
  pub says : SequenceSays text work b n name r

-- ---- what steps spell

-- No step is bad, and the bytes that are spelled were put.
pub record SpeltInto (before : Writer) (s : spelling.Spelt) (after : Writer) : Type 0 where
  pub bytes : List ℕ
  pub spells : s ≡ spelling.spelt bytes
  pub puts : Puts before bytes after

-- A step is bad, and its name is this part of the text. What was put before it is not told: the service measures on an empty part of the output first, and
-- writes only where no step is bad; the work area is only read.
pub record BadStepAt (text : List ℕ) (s : spelling.Spelt) (r : Refusal) : Type 0 where
  pub spells : s ≡ spelling.bad (number_of r.reason) (part_at text r.from r.length)
  pub inside : r.from + r.length ≤ length text
  pub line : r.line ≡ 0

-- by the cases of the answer
abbrev pub SpeltSays : List ℕ → Writer → spelling.Spelt → Writer → Result (Unit {0}) Refusal → Type 0
SpeltSays text before s after (Ok u) = SpeltInto before s after
SpeltSays text before s after (Err r) = BadStepAt text s r

-- What the answer of the speller says of s, which the definitions spell.
pub record SpeltIs (text : List ℕ) (before : Writer) (s : spelling.Spelt) (after : Writer) (r : Result (Unit {0}) Refusal) : Type 0 where
  pub says : SpeltSays text before s after r

-- ---- refusals

-- the refusal that an answer on all steps states
abbrev pub bad_in : Result (Unit {0}) Refusal → Option calls.Refusal
bad_in (Ok u) = None
bad_in (Err r) = Some (stated r)

-- The first bad step of any entries that have the segments and the paths of the tables.
pub record BadStepIs (text work : List ℕ) (b : Bases) (n : Counts) (r : Result (Unit {0}) Refusal) : Type 0 where
  pub first : (es : List Entry) → segments es ≡ segments_of text work b n → paths es ≡ paths_to text work b n.paths
      → bad_step es (paths es) ≡ bad_in r
