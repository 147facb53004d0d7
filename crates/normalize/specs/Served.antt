-- What a normalization returns and leaves behind, and what every accepted one keeps. Document 01, "Refused calls" and "Folding".
use Rattle.std.specs.Prelude.{ℕ, true, List, ◌≡◌, length, take, replicate}
use Rattle.gfa_spec.specs.Reading.{Entry, parsed, parse}
use Rattle.normalize_spec.specs.Counting.{Stats}
use Rattle.normalize_spec.specs.Services.{normal, normalize}
use Rattle.normalize_spec.specs.Guarantees.{looser, Kept, Counted, Monotone}
use Rattle.reader.specs.Served.{answer_of, output_of}
use Rattle.normalize_answers.specs.declared.returning.NormalizeSelfLoopsResult.{NormalizeSelfLoopsResult}
use Rattle.normalize_answers.specs.Counters.{counters}
use Rattle.normalize_answers.specs.Answered.{outcome_of, stats_of}

-- Demand 3 of a text and of an output: both can be read, and of their entries it is said
-- that every path spells what it spelled (`kept.spells`), has lost exactly the steps of its folded runs (`kept.lost`), and that this is its
-- fall in adjacent equal steps (`kept.fallen`); and that the counters are counts of the two (`counted`).
pub record Keeps (text : List ℕ) (cap : ℕ) (output : List ℕ) (st : Stats) : Type 0 where
  pub before : List Entry
  pub after : List Entry
  pub reads : parse text ≡ parsed before
  pub kept : Kept before cap output after
  pub counted : Counted before after st

-- Demand 3 of two outputs for one text, the second with a cap as loose or looser: read again, what the tighter cap folded the looser one folded, and no path of the
-- looser one's output has more steps.
pub record LooserFolds (text : List ℕ) (c d : ℕ) (output-c output-d : List ℕ) : Type 0 where
  pub monotone : (es after-c after-d : List Entry) → parse text ≡ parsed es → parse output-c ≡ parsed after-c → parse output-d ≡ parsed after-d → Monotone es c d after-c after-d

-- What the public call returns, and leaves in the output and in a work area of `size` words: which definition each part equals.
pub record Normalized (text : List ℕ) (cap : ℕ) (out out' : List ℕ) (size : ℕ) (work' : List ℕ) (r : NormalizeSelfLoopsResult) : Type 0 where
  -- number, line, from and length
  pub answer : r.answer ≡ answer_of (outcome_of (normalize text cap (length out) size))
  -- all fourteen counters
  pub stats : counters r.stats ≡ stats_of (normalize text cap (length out) size)
  -- the answer in front of what was there, or what was there
  pub output : out' ≡ output_of out (outcome_of (normalize text cap (length out) size))
  -- the work area is all zero
  pub cleared : work' ≡ replicate size 0
  -- demand 3, of the bytes that now stand at the front of the output
  pub kept : r.answer.number ≡ 0 → Keeps text cap (take r.answer.length out') (counters r.stats)
  -- and, against any call with a cap d as loose or looser that is accepted, whatever room and work area it was lent: it folds at least as much
  pub folds : r.answer.number ≡ 0 → (d room words : ℕ) (output : List ℕ) (st : Stats) → looser cap d ≡ true → normalize text d room words ≡ normal output st
      → LooserFolds text cap d (take r.answer.length out') output
