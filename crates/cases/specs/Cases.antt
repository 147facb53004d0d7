-- What the reader of a list of cases answers, and what its comparisons tell.
use Rattle.std.specs.Prelude.{ℕ, ◌+◌, ◌-◌, ◌≤◌, ◌<◌, Bool, true, List, ◌≡◌, length, get_or}
use Rattle.gfa_spec.specs.Bytes.{part}
use Rattle.cases.specs.declared.lists.Parts.{Parts}

-- A place not before `from`, in a list of so many bytes or at its end.
pub record Skipped (size from r : ℕ) : Type 0 where
  pub low : from ≤ r
  pub high : r ≤ size

-- The parts of a case follow each other within the list, and the next case comes behind it.
pub record CaseIs (size start : ℕ) (c : Parts) : Type 0 where
  pub here : c.start ≡ start
  pub name : start ≤ c.blank
  pub head : c.blank ≤ c.end
  pub text : c.end ≤ c.text
  pub stop : c.text ≤ c.stop
  pub output : c.stop ≤ c.output
  pub last : c.output ≤ c.last
  pub inside : c.last ≤ size
  pub on : start < c.next
  pub high : c.next ≤ size

-- Where the answer is yes, P holds.
pub record Tells (P : Type 0) (r : Bool) : Type 0 where
  pub fact : r ≡ true → P

-- Each element from `from` up to `to` is x.
pub record EachIs (xs : List ℕ) (from to x : ℕ) : Type 0 where
  pub all : (i : ℕ) → from ≤ i → i < to → get_or xs i 0 ≡ x

-- The row has these numbers from word `from` on.
pub record SameNumbers (row : List ℕ) (from : ℕ) (numbers : List ℕ) : Type 0 where
  pub all : (i : ℕ) → i < length numbers → get_or row (from + i) 0 ≡ get_or numbers i 0

-- The buffer holds the output, and behind it the pattern.
pub record LeftBytes (out output : List ℕ) : Type 0 where
  pub front : part 0 (length output) out ≡ output
  pub rest : EachIs out (length output) (length out) 165

-- The first `words` of the work area are 0, and the others the pattern.
pub record LeftWords (work : List ℕ) (words : ℕ) : Type 0 where
  pub front : EachIs work 0 words 0
  pub rest : EachIs work words (length work) 2779096485

-- The row has the numbers of the answer and what more was counted, and the buffer holds the case's output.
pub record Agrees (list : List ℕ) (c : Parts) (row answer more out : List ℕ) : Type 0 where
  pub numbers : SameNumbers row 4 answer
  pub counts : SameNumbers row 10 more
  pub bytes : LeftBytes out (part c.output (c.last - c.output) list)
