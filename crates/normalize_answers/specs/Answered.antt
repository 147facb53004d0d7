-- What a normalization answers, as the definition's outcome. Document 01, "Refused calls" and "Folding".
use Rattle.std.specs.Prelude.{ℕ, List, ◌≡◌, Result, Ok, Err}
use Rattle.gfa_spec.specs.Calls.{Outcome, answer}
use Rattle.normalize_spec.specs.Counting.{Stats}
use Rattle.normalize_spec.specs.Services.{Normal, normal}
use Rattle.refusals.specs.declared.refusal.Refusal.{Refusal}
use Rattle.reader.specs.Served.{answer_of, answer_in, output_of}
use Rattle.normalize_answers.specs.declared.returning.NormalizeSelfLoopsResult.{NormalizeSelfLoopsResult}
use Rattle.normalize_answers.specs.declared.written.Written.{Written}
use Rattle.normalize_answers.specs.Counters.{no_counters, counters}

-- the answer to a call: the definition's refusal, or its text
unfoldable pub outcome_of : Normal → Outcome
outcome_of (Normal.refusal r) = Outcome.refusal r
outcome_of (normal text st) = answer text

-- the statistics: the definition's, or all 0 on a refusal
unfoldable pub stats_of : Normal → Stats
stats_of (Normal.refusal r) = no_counters
stats_of (normal text st) = st

-- What a call returns, and leaves in the output; o is what the definition gives.
pub record NormalAnswered (out out' : List ℕ) (r : NormalizeSelfLoopsResult) (o : Normal) : Type 0 where
  pub answer : r.answer ≡ answer_of (outcome_of o)
  pub stats : counters r.stats ≡ stats_of o
  pub output : out' ≡ output_of out (outcome_of o)

-- ---- within a call

-- the bytes that were written, and no statistics
abbrev pub length_in : Result Written Refusal → Result ℕ Refusal
length_in (Ok w) = Ok w.length
length_in (Err r) = Err r

-- the statistics, all 0 on a refusal
abbrev pub counters_in : Result Written Refusal → Stats
counters_in (Ok w) = counters w.stats
counters_in (Err r) = no_counters

-- What a call that wrote so much, or was refused, returns.
pub record ReturnedIs (k : Result Written Refusal) (r : NormalizeSelfLoopsResult) : Type 0 where
  pub answer : r.answer ≡ answer_in (length_in k)
  pub stats : counters r.stats ≡ counters_in k

-- What a call has written, or why it is refused, and what it left in the output; o is what the definition gives.
pub record NormalTold (out out' : List ℕ) (k : Result Written Refusal) (o : Normal) : Type 0 where
  pub answer : answer_in (length_in k) ≡ answer_of (outcome_of o)
  pub stats : counters_in k ≡ stats_of o
  pub output : out' ≡ output_of out (outcome_of o)
