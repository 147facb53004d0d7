-- The parts of a place of a text between separators, as an iterator gives them.
use Rattle.std.specs.Prelude.{ℕ, ◌+◌, ◌-◌, ◌≤◌, cond, leb, List, [], ◌∷◌, ◌≡◌, Option, None, Some}
use Rattle.gfa_spec.specs.Bytes.{Part, part, split}
use Rattle.scan.specs.declared.places.Place.{Place}
use Rattle.scan.specs.declared.split.Split.{Split}
use Rattle.scan.specs.Places.{bytes_in, part_at}

-- the parts that are left: none behind the end
unfoldable pub parts_left : Split → List Part
parts_left s = cond (leb s.at s.end) (split s.byte s.at (part s.at (s.end - s.at) s.text.now)) []

-- All parts of the place are left.
pub record AllParts (text : List ℕ) (b : ℕ) (p : Place) (s : Split) : Type 0 where
  pub same : s.text.now ≡ text
  pub front : s.at ≡ p.start
  pub end : s.end ≡ p.start + p.size
  pub left : parts_left s ≡ split b p.start (bytes_in text p)

-- The place of the first part that was left; the others are left now.
pub record FirstPart (s : Split) (p : Place) (t : Split) : Type 0 where
  pub first : parts_left s ≡ part_at s.text.now p.start p.size ∷ parts_left t
  pub here : p.start ≡ s.at
  pub high : p.start + p.size ≤ s.end
  pub on : t.at ≡ p.start + p.size + 1

-- by the cases of the item
abbrev pub PartSays : Split → Option Place → Split → Type 0
PartSays s (Some p) t = FirstPart s p t
PartSays s None t = (parts_left s ≡ []) × (parts_left t ≡ [])

-- What the next item says: the first part that was left, or that none was.
pub record PartGiven (s : Split) (r : Option Place) (t : Split) : Type 0 where
  pub same : t.text ≡ s.text
  pub end : t.end ≡ s.end
  pub says : PartSays s r t
