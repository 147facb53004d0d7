-- What the two programs print. Document 01, "The four services".
use Rattle.std.specs.Prelude.{ℕ, ◌≤◌, cond, List, ◌∷◌, ◌++◌, ◌≡◌, ltb, length, take}
use Rattle.gfa_spec.specs.Bytes.{bytes, end_line}
use Rattle.gfa_spec.specs.Decimal.{decimal}
use Rattle.gfa_spec.specs.Calls.{plainly, Outcome, answer}
use Rattle.writers.specs.Writers.{Wrote}
use Rattle.reader.specs.declared.answers.Answer.{Answer}

-- a line: a name, `=` and a number
unfoldable pub number_line : List ℕ → ℕ → List ℕ
number_line name n = end_line (name ++ (61 ∷ decimal n))

-- the lines of a refusal
unfoldable pub refusal_text : Answer → List ℕ
refusal_text a = number_line (bytes "refused") a.number ++ (number_line (bytes "line") a.line ++ (number_line (bytes "from") a.from ++ number_line (bytes "length") a.length))

-- what is printed: the lines of the refusal, or the answer
unfoldable pub printed : Outcome → List ℕ
printed (Outcome.refusal r) = refusal_text (record { number = r.number; line = r.line; from = r.from; length = r.length })
printed (answer bs) = bs

-- a program refuses a text of more than 2,048 bytes as 1
unfoldable pub limited : List ℕ → Outcome → Outcome
limited text o = cond (ltb 2048 (length text)) (Outcome.refusal (plainly 1)) o

-- The lines of refusal 1 are written at the front of a buffer.
pub record LongText (out out' : List ℕ) (n : ℕ) : Type 0 where
  pub lines : Wrote (length out) out 0 (printed (Outcome.refusal (plainly 1))) out' n

-- The first n bytes of the buffer are what is to be printed; it is cut where the buffer ends.
pub record Prints (out' : List ℕ) (n : ℕ) (o : Outcome) : Type 0 where
  pub bytes : take n out' ≡ take (length out') (printed o)
  pub inside : n ≤ length out'

-- What is shown of an answer whose bytes stand in the buffer if its number is 0.
pub record ShownIs (out out' : List ℕ) (a : Answer) (n : ℕ) : Type 0 where
  pub accepted : a.number ≡ 0 → (out' ≡ out) × (n ≡ a.length)
  pub refused : (a.number ≡ 0 → ⊥) → Wrote (length out) out 0 (refusal_text a) out' n
