-- The lines of a text, as an iterator gives them. Document 01, "Reading".
use Rattle.std.specs.Prelude.{List, [], ◌∷◌, ◌≡◌, Option, None, Some}
use Rattle.gfa_spec.specs.Bytes.{Part}
use Rattle.scan.specs.declared.places.Place.{Place}
use Rattle.scan.specs.declared.lines.Lines.{Lines}
use Rattle.scan.specs.Places.{Inside, part_at, lines_at}

-- the lines that are left
abbrev pub lines_left : Lines → List Part
lines_left s = lines_at s.text.now s.at

-- The place of the first line that was left; the others are left now.
pub record FirstLine (s : Lines) (p : Place) (t : Lines) : Type 0 where
  pub first : lines_left s ≡ part_at s.text.now p.start p.size ∷ lines_left t
  pub inside : Inside s.text.now p

-- by the cases of the item
abbrev pub LineSays : Lines → Option Place → Lines → Type 0
LineSays s (Some p) t = FirstLine s p t
LineSays s None t = (lines_left s ≡ []) × (lines_left t ≡ [])

-- What the next item says: the first line that was left, or that none was.
pub record LineGiven (s : Lines) (r : Option Place) (t : Lines) : Type 0 where
  pub same : t.text ≡ s.text
  pub says : LineSays s r t
