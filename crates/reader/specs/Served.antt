-- What every call returns and leaves behind. Document 01, "Refused calls".
use Rattle.std.specs.Prelude.{Result, Ok, Err}
use Rattle.refusals.specs.declared.refusal.Refusal.{Refusal}
use Rattle.refusals.specs.Reasons.{number_of}
use Rattle.std.specs.Prelude.{ℕ, List, ◌++◌, ◌≡◌, length, drop, replicate}
use Rattle.reader.specs.declared.answers.Answer.{Answer}
use Rattle.gfa_spec.specs.Calls.{Outcome, answer}

-- the four fields of an answer: a refusal's, or number 0 and the bytes written
unfoldable pub answer_of : Outcome → Answer
answer_of (Outcome.refusal r) = record { number = r.number; line = r.line; from = r.from; length = r.length }
answer_of (answer bs) = record { number = 0; line = 0; from = 0; length = length bs }

-- the output: the answer in front of what was there, or what was there
unfoldable pub output_of : List ℕ → Outcome → List ℕ
output_of out (Outcome.refusal r) = out
output_of out (answer bs) = bs ++ drop (length bs) out

-- What a call returns, and leaves in the output.
pub record Answered (out out' : List ℕ) (r : Answer) (o : Outcome) : Type 0 where
  pub answer : r ≡ answer_of o
  pub output : out' ≡ output_of out o

-- What a public call returns, and leaves in the output and in a work area of `size` words, which is all zero.
pub record Served (out out' : List ℕ) (size : ℕ) (work' : List ℕ) (r : Answer) (o : Outcome) : Type 0 where
  pub answer : r ≡ answer_of o
  pub output : out' ≡ output_of out o
  pub cleared : work' ≡ replicate size 0

-- the answer of a call that wrote so many bytes, or was refused
abbrev pub answer_in : Result ℕ Refusal → Answer
answer_in (Ok n) = record { number = 0; line = 0; from = 0; length = n }
answer_in (Err r) = record { number = number_of r.reason; line = r.line; from = r.from; length = r.length }
