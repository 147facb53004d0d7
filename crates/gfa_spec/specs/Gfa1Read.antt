-- What the reader reads, in the words of the specification: the two are compared by these. Places are left out.
use Rattle.std.specs.Prelude.{ℕ, Bool, true, cond, not, ◌&&◌, List, [], ◌∷◌, ◌++◌, map, ◌≡◌, drop}
use Rattle.std.specs.Prelude.{Option, None, Some}
use Rattle.gfa_spec.specs.Options.{map_or}
use Rattle.gfa_spec.specs.Bytes.{same, any, Part}
use Rattle.gfa_spec.specs.Reading.{Step, Kind, Entry, header, comment, blank, other, segment, link, path, Read, refused, accepted}
use Rattle.gfa_spec.specs.Gfa1.{columns, column, Visit, Record, states, conforms}

-- ---- a line

-- the visit that a step states
unfoldable pub visit_of : Step → Visit
visit_of s = record { name = s.name.bytes; orientation = s.orientation }

-- the record of a P or W line, of its fields and visits
unfoldable pub path_record : Kind → List (List ℕ) → List Visit → Record
path_record Kind.P cs visits = Record.path (column 2 cs) visits (column 4 cs) (drop 4 cs)
path_record Kind.W cs visits = Record.walk (column 2 cs) (column 3 cs) (column 4 cs) (column 5 cs) (column 6 cs) (column 7 cs) visits (drop 7 cs)

-- the record that an entry states, none for a raw line; what a segment and a link do not name is read of the line that they keep
unfoldable pub stated : Entry → Option Record
stated (header l) = None
stated (comment l) = None
stated (blank l) = None
stated (other l) = None
stated (segment s) = Some (Record.segment s.id s.sequence (drop 3 (columns s.line)))
stated (link l) =
    Some (Record.link l.from l.from_orientation l.to l.to_orientation (column 6 (columns l.line)) (drop 6 (columns l.line)))
stated (path p) = Some (path_record p.kind p.fields (map visit_of p.steps))

-- a record without its tags
unfoldable pub untagged : Record → Record
untagged (Record.segment name sequence tags) = Record.segment name sequence []
untagged (Record.link from from_orientation to to_orientation overlap tags) = Record.link from from_orientation to to_orientation overlap []
untagged (Record.path name visits overlaps tags) = Record.path name visits overlaps []
untagged (Record.walk sample haplotype sequence start end steps visits tags) = Record.walk sample haplotype sequence start end steps visits []

-- the record that an entry states, without its tags
unfoldable pub stated_untagged : Entry → Option Record
stated_untagged e = map_or (stated e) None (λ r. Some (untagged r))

-- the name of a segment
unfoldable pub name_in : Option Record → List (List ℕ)
name_in None = []
name_in (Some (Record.segment name sequence tags)) = name ∷ []
name_in (Some (Record.link from from_orientation to to_orientation overlap tags)) = []
name_in (Some (Record.path name visits overlaps tags)) = []
name_in (Some (Record.walk sample haplotype sequence start end steps visits tags)) = []

-- is it a segment whose name is among the IDs?
unfoldable pub known : List (List ℕ) → Option Record → Bool
known ids r = any (λ name. any (same name) ids) (name_in r)

-- what is to be read where the specification states a record: 6 for a segment whose name was read before, else the record
unfoldable pub expected : List (List ℕ) → Option Record → Read (Option Record)
expected ids r = cond (known ids r) (refused 6) (accepted r)

-- ---- a text

-- line by line: the entry of a line that conforms states the record of the line
abbrev pub Agree : List Part → List Entry → Type 0
Agree [] [] = Unit {0}
Agree [] (e ∷ es) = ⊥
Agree (l ∷ ls) [] = ⊥
Agree (l ∷ ls) (e ∷ es) = (conforms l.bytes ≡ true → stated e ≡ states l.bytes) × Agree ls es

-- no segment's name comes twice, or is among the IDs
unfoldable pub fresh : List (List ℕ) → List Part → Bool
fresh ids [] = true
fresh ids (l ∷ ls) = not (known ids (states l.bytes)) && fresh (ids ++ name_in (states l.bytes)) ls
