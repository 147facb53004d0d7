-- The sorts of a line, and how a line of each is read. Document 01, "Reading".
use Rattle.std.specs.Prelude.{ℕ, List, ◌≡◌, get_or}
use Rattle.lines.specs.declared.sort.Sort.{Sort}
use Rattle.lines.specs.declared.sort.Sort.TheVariants.{Blank, Comment, Header, Segment, Link, Path, Other}
use Rattle.gfa_spec.specs.Bytes.{Part}
use Rattle.scan.specs.Places.{part_at}
use Rattle.tables.specs.Paths.{kind_in, letter_of, parse_path}
use Rattle.gfa_spec.specs.Reading.{Read, accepted, Entry, header, comment, blank, other, fields, parse_s, parse_l, parse_line}

-- how a line of a sort is read, behind segments with the given IDs
unfoldable pub read_as : Sort → List (List ℕ) → Part → Read Entry
read_as Blank ids line = accepted (blank line.bytes)
read_as Comment ids line = accepted (comment line.bytes)
read_as Header ids line = accepted (header line.bytes)
read_as Segment ids line = parse_s ids line (fields line)
read_as Link ids line = parse_l line (fields line)
read_as (Path k) ids line = parse_path (kind_in k) (fields line)
read_as Other ids line = accepted (other line.bytes)

-- the first byte of a record's line
abbrev pub Letter : Sort → ℕ → Type 0
Letter Segment b = b ≡ 83
Letter Link b = b ≡ 76
Letter (Path k) b = b ≡ letter_of (kind_in k)
Letter Blank b = Unit {0}
Letter Comment b = Unit {0}
Letter Header b = Unit {0}
Letter Other b = Unit {0}

-- The line is read as a line of this sort, and begins with its letter.
pub record SortIs (text : List ℕ) (start size : ℕ) (r : Sort) : Type 0 where
  pub is : (ids : List (List ℕ)) → parse_line ids (part_at text start size) ≡ read_as r ids (part_at text start size)
  pub letter : Letter r (get_or text start 0)
