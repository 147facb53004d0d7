-- What steps spell. Document 01, "Complement and spelling", and the refusals 18 and 19.
use Rattle.std.specs.Prelude.{ℕ, cond, List, [], ◌∷◌, ◌++◌}
use Rattle.std.specs.Prelude.{Option, None, Some}
use Rattle.gfa_spec.specs.Bytes.{same, star, Part}
use Rattle.gfa_spec.specs.Reading.{Step, Segment}
use Rattle.gfa_spec.specs.Records.{sequence_of}
use Rattle.gfa_spec.specs.Sequences.{oriented}

-- What a step list spells, or its first bad step: 18, it names no segment; 19, its segment has sequence `*`.
pub data Spelt : Type 0 where
  bad : ℕ → Part → Spelt
  spelt : List ℕ → Spelt

-- bytes before what is spelled
unfoldable pub behind : List ℕ → Spelt → Spelt
behind seq (bad n name) = bad n name
behind seq (spelt more) = spelt (seq ++ more)

-- a step, of the sequence found by its name, before what the steps behind it spell
unfoldable pub spell_step : (comp : ℕ → ℕ) → Step → Option (List ℕ) → Spelt → Spelt
spell_step comp s None more = bad 18 s.name
spell_step comp s (Some seq) more = cond (same seq star) (bad 19 s.name) (behind (oriented comp s.orientation seq) more)

-- the sequences of the steps, joined with no regard to overlaps; `comp` gives the complement of a byte
unfoldable pub spell : (comp : ℕ → ℕ) → List Segment → List Step → Spelt
spell comp ss [] = spelt []
spell comp ss (s ∷ steps) = spell_step comp s (sequence_of ss s.name.bytes) (spell comp ss steps)
