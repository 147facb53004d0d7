-- The calls that are refused before anything is answered, and the answers. Document 01, "Refused calls".
use Rattle.std.specs.Prelude.{ℕ, suc, ◌+◌, ◌*◌, cond, not, ◌&&◌, List, [], ◌∷◌, eqb, leb, ltb, length}
use Rattle.std.specs.Prelude.{Option, None, Some}
use Rattle.gfa_spec.specs.Bytes.{Part}
use Rattle.gfa_spec.specs.Reading.{Entry, Parsed, refused_at, parsed, parse}

-- ---- refusals

-- A refusal: its number, and what the table names; a field not named is 0.
pub record Refusal : Type 0 where
  pub number : ℕ
  pub line : ℕ
  pub from : ℕ
  pub length : ℕ

-- nothing is returned besides the number: 1, 4, 20, 21, 22
unfoldable pub plainly : ℕ → Refusal
plainly n = record { number = n; line = 0; from = 0; length = 0 }

-- the line, the first being 1: 5 to 17
unfoldable pub on_line : ℕ → ℕ → Refusal
on_line n line = record { number = n; line = line; from = 0; length = 0 }

-- the offset of a byte: 2, 3
unfoldable pub at_place : ℕ → ℕ → Refusal
at_place n from = record { number = n; line = 0; from = from; length = 0 }

-- the place and length of a name in the text: 18, 19
unfoldable pub on_name : ℕ → Part → Refusal
on_name n name = record { number = n; line = 0; from = name.at; length = length name.bytes }

-- ---- what is read of a call

-- the first byte of 128 or more (2), or carriage return not followed at once by a line feed (3), whichever comes first
unfoldable pub bad_byte : ℕ → List ℕ → Option Refusal
bad_byte at [] = None
bad_byte at (b ∷ []) = cond (leb 128 b) (Some (at_place 2 at)) (cond (eqb b 13) (Some (at_place 3 at)) None)
bad_byte at (b ∷ (c ∷ bs)) =
    cond (leb 128 b) (Some (at_place 2 at))
    (cond (eqb b 13 && not (eqb c 10)) (Some (at_place 3 at))
    (bad_byte (suc at) (c ∷ bs)))

-- What a text and a work area of so many words give: the text's entries, or a refusal of 1 to 17.
pub data Input : Type 0 where
  refusal : Refusal → Input
  entries : List Entry → Input

-- 5 to 17: a line is refused
unfoldable pub of_parsed : Parsed → Input
of_parsed (refused_at n line) = refusal (on_line n line)
of_parsed (parsed es) = entries es

-- 2 and 3, then 4: the work area is shorter than 4 words per text byte plus 64
unfoldable pub of_bytes : Option Refusal → List ℕ → ℕ → Input
of_bytes (Some r) text work = refusal r
of_bytes None text work = cond (ltb work (4 * length text + 64)) (refusal (plainly 4)) (of_parsed (parse text))

-- 1: the text is longer than 1,048,576 bytes; then the others in their order
unfoldable pub input : List ℕ → ℕ → Input
input text work = cond (ltb 1048576 (length text)) (refusal (plainly 1)) (of_bytes (bad_byte 0 text) text work)

-- ---- answers

-- What a service answers: a refusal, or bytes that fill the front of the output.
pub data Outcome : Type 0 where
  refusal : Refusal → Outcome
  answer : List ℕ → Outcome

-- 22: the output buffer is shorter than the answer
unfoldable pub fitted : ℕ → List ℕ → Outcome
fitted room bs = cond (ltb room (length bs)) (Outcome.refusal (plainly 22)) (answer bs)
