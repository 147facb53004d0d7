-- The line table. Document 01, "Reading": a record is a segment, a link, a path, or a raw line of one of four sorts, held in the
-- line's entry with its number or place.
use Rattle.std.specs.Prelude.{ℕ, ◌+◌, ◌*◌, ◌≤◌, ◌<◌, List, [], ◌∷◌, cond, eqb, length, get_or}
use Rattle.tables.specs.declared.tables.Bases.{Bases}
use Rattle.tables.specs.declared.tables.Counts.{Counts}
use Rattle.tables.specs.declared.entry.RawLine.{RawLine}
use Rattle.tables.specs.declared.entry.Record.{Record}
use Rattle.tables.specs.declared.entry.Record.TheVariants.{Segment, Link, Path, Header, Comment, Blank, Other}
use Rattle.gfa_spec.specs.Bytes.{part}
use Rattle.gfa_spec.specs.Reading.{Entry, header, comment, blank, other, segment, link, path}
use Rattle.work.specs.Rows.{rows_at}
use Rattle.tables.specs.Segments.{segment_at}
use Rattle.tables.specs.Links.{link_at}
use Rattle.tables.specs.Paths.{path_at}

-- ---- records as words

-- the three words of a record: its sort, and its number, or its start and its length
abbrev pub words_of : Record → List ℕ
words_of (Segment n) = 0 ∷ n.0 ∷ 0 ∷ []
words_of (Link n) = 1 ∷ n.0 ∷ 0 ∷ []
words_of (Path n) = 2 ∷ n.0 ∷ 0 ∷ []
words_of (Header l) = 3 ∷ l.start ∷ l.length ∷ []
words_of (Comment l) = 4 ∷ l.start ∷ l.length ∷ []
words_of (Blank l) = 5 ∷ l.start ∷ l.length ∷ []
words_of (Other l) = 6 ∷ l.start ∷ l.length ∷ []

-- the record of a sort and two words
unfoldable pub record_of : ℕ → ℕ → ℕ → Record
record_of tag a b =
    cond (eqb tag 0) (Segment (record { 0 = a }))
    (cond (eqb tag 1) (Link (record { 0 = a }))
    (cond (eqb tag 2) (Path (record { 0 = a }))
    (cond (eqb tag 3) (Header (record { start = a; length = b }))
    (cond (eqb tag 4) (Comment (record { start = a; length = b }))
    (cond (eqb tag 5) (Blank (record { start = a; length = b }))
    (Other (record { start = a; length = b })))))))

-- the record at the word `at`
unfoldable pub record_at : List ℕ → ℕ → Record
record_at work at = record_of (get_or work at 0) (get_or work (at + 1) 0) (get_or work (at + 2) 0)

-- a value by a record: of a segment's, a link's or a path's number, or of a raw line
abbrev pub by_record {ℓ} : {A : Type ℓ} → (ℕ → A) → (ℕ → A) → (ℕ → A) → (RawLine → A) → Record → A
by_record seg ln pa raw (Segment n) = seg n.0
by_record seg ln pa raw (Link n) = ln n.0
by_record seg ln pa raw (Path n) = pa n.0
by_record seg ln pa raw (Header l) = raw l
by_record seg ln pa raw (Comment l) = raw l
by_record seg ln pa raw (Blank l) = raw l
by_record seg ln pa raw (Other l) = raw l

-- ---- entries

-- what a record of the line table says, with the tables at b
unfoldable pub entry_of : List ℕ → List ℕ → Bases → Record → Entry
entry_of text work b (Segment n) = segment (segment_at text work (b.segs + 7 * n.0))
entry_of text work b (Link n) = link (link_at text work (b.links + 8 * n.0))
entry_of text work b (Path n) = path (path_at text b.steps work (b.paths + 5 * n.0))
entry_of text work b (Header l) = header (part l.start l.length text)
entry_of text work b (Comment l) = comment (part l.start l.length text)
entry_of text work b (Blank l) = blank (part l.start l.length text)
entry_of text work b (Other l) = other (part l.start l.length text)

-- the entry at the word `at`
unfoldable pub entry_at : List ℕ → Bases → List ℕ → ℕ → Entry
entry_at text b work at = entry_of text work b (record_at work at)

-- the first n entries of the line table
unfoldable pub entries_at : List ℕ → List ℕ → Bases → ℕ → List Entry
entries_at text work b n = rows_at (entry_at text b) 3 work b.lines n

-- a record's number is below its table's count, and a raw line is a part of the text
abbrev pub Fits : List ℕ → Counts → Record → Type 0
Fits text n r = by_record (λ k. k < n.segs) (λ k. k < n.links) (λ k. k < n.paths) (λ l. l.start + l.length ≤ length text) r

-- A line's row fits.
pub record EntryRow (text : List ℕ) (n : Counts) (work : List ℕ) (at : ℕ) : Type 0 where
  pub fits : Fits text n (record_at work at)
