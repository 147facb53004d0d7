-- Places in a text: what the reader's starts and lengths stand for. Document 01, "Forms that change": strings become offsets into the text.
use Rattle.std.specs.Prelude.{ℕ, suc, ◌+◌, ◌-◌, ◌≤◌, ◌<◌, cond, List, [], ◌∷◌, map, ◌≡◌, eqb, length, drop}
use Rattle.std.specs.Prelude.{Option, None, Some}
use Rattle.scan.specs.declared.places.Place.{Place}
use Rattle.gfa_spec.specs.Bytes.{Part, part, split, nth}
use Rattle.gfa_spec.specs.Reading.{drop_final, drop_return, line_of, fields, nowhere}

-- the part of the text with this start and this length
unfoldable pub part_at : List ℕ → ℕ → ℕ → Part
part_at text start size = record { at = start; bytes = part start size text }

-- the bytes of a place
abbrev pub bytes_in : List ℕ → Place → List ℕ
bytes_in text p = part p.start p.size text

-- it lies within the text
abbrev pub Inside : List ℕ → Place → Type 0
Inside text p = p.start + p.size ≤ length text

-- how many bytes stand before the first b
unfoldable pub before : ℕ → List ℕ → ℕ
before b [] = 0
before b (x ∷ xs) = cond (eqb x b) 0 (suc (before b xs))

-- The first place of b from `from` up to `to`, or `to`.
pub record FirstIs (text : List ℕ) (b from to r : ℕ) : Type 0 where
  pub place : r ≡ from + before b (part from (to - from) text)
  pub low : from ≤ r
  pub high : r ≤ to

-- The length of what stands from `start` up to `end`, without a carriage return at its end.
pub record TrimmedIs (text : List ℕ) (start end r : ℕ) : Type 0 where
  pub rest : part start r text ≡ drop_return (part start (end - start) text)
  pub high : start + r ≤ end

-- the lines of the text from `at` on
unfoldable pub lines_at : List ℕ → ℕ → List Part
lines_at text at = map line_of (drop_final (split 10 at (drop at text)))

-- The line at `at`: the lines from there are this one, and those from `next`.
pub record NextLineIs (text : List ℕ) (at start size next : ℕ) : Type 0 where
  pub first : lines_at text at ≡ part_at text start size ∷ lines_at text next
  pub within : start + size ≤ next
  pub on : at < next
  pub inside : next ≤ length text

-- Field k of the line, counted from 0, is this part of the text.
pub record FoundAt (text : List ℕ) (start size k at long : ℕ) : Type 0 where
  pub more : k < length (fields (part_at text start size))
  pub field : nth k (fields (part_at text start size)) nowhere ≡ part_at text at long
  pub inside : at + long ≤ length text

-- The line has no more than k fields.
pub record FewFields (text : List ℕ) (start size k : ℕ) : Type 0 where
  pub few : length (fields (part_at text start size)) ≤ k

-- by the cases of the answer
abbrev pub FieldSays : List ℕ → Place → ℕ → Option Place → Type 0
FieldSays text line k (Some f) = FoundAt text line.start line.size k f.start f.size
FieldSays text line k None = FewFields text line.start line.size k

-- What the answer to a search for field k says.
pub record FieldIs (text : List ℕ) (line : Place) (k : ℕ) (r : Option Place) : Type 0 where
  pub says : FieldSays text line k r
