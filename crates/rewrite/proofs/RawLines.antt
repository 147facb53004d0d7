-- Lines that are written as they came: what a row says of them. Assumes nothing.
use mathlib.Core.Bool.{true, false}
use Prim.Native.Nat.{ℕ}
use mathlib.Core.List.{List, [], ◌∷◌, append-nil}
use mathlib.Core.Path.{◌≡◌, refl, ap}
use Rattle.gfa_spec.specs.Bytes.{one, nil, join, end_line, ended}
use Rattle.gfa_spec.specs.Reading.{choose}
use Rattle.writers.specs.declared.writer.Writer.{Writer}
use Rattle.writers.specs.Writers.{Puts}
use Rattle.writers.proofs.Writing.{puts_nothing}
use Rattle.tables.specs.declared.entry.Record.{Record}
use Rattle.tables.specs.declared.entry.Record.TheVariants.{Segment, Link, Path, Header, Comment, Blank, Other}
use Rattle.tables.specs.declared.tables.Bases.{Bases}
use Rattle.tables.specs.declared.tables.Counts.{Counts}
use Rattle.tables.specs.declared.rows.LinkWords.{LinkWords}
use Rattle.tables.specs.declared.rows.SegmentWords.{SegmentWords}
use Rattle.tables.specs.Entries.{entry_of, Fits}
use Rattle.scan.specs.declared.places.Place.{Place}
use Rattle.scan.specs.Places.{bytes_in, Inside}
use Rattle.tables.specs.ByNumber.{LineIs, SegmentIs, LinkIs}
use Rattle.normalize_tables.specs.declared.layout.Layout.{Layout}
use Rattle.normalize_tables.specs.declared.rows.Ends.{Ends}
use Rattle.normalize_tables.specs.NewByNumber.{ends_no}
use Rattle.rewrite.specs.declared.lines.Class.{Class}
use Rattle.rewrite.specs.declared.lines.Class.TheVariants as class
use Rattle.std.specs.Prelude.{Option, Some, None}
use Rattle.rewrite.specs.Pieces.{raw_of, class_lines, raw_piece, segment_piece, kept_piece}

-- ---- raw lines

-- the lines at a place, if there is one
abbrev lines_in : List ℕ → Option Place → List (List ℕ)
lines_in text None = []
lines_in text (Some p) = bytes_in text p ∷ []

-- the place is in the text, if there is one
abbrev InsideIf : List ℕ → Option Place → Type 0
InsideIf text None = Unit {0}
InsideIf text (Some p) = Inside text p

-- the lines of a class of a record are its raw line of that class, which is a part of the text
class_raw : (text work : List ℕ) (b : Bases) (n : Counts) (c : Class) (r : Record) → Fits text n r
    → (class_lines c (entry_of text work b r) ≡ lines_in text (raw_of c r)) × InsideIf text (raw_of c r)
unfolding class_lines entry_of raw_of choose one nil
class_raw text work b n class.Leading (Segment k) h = (refl, tt)
class_raw text work b n class.Leading (Link k) h = (refl, tt)
class_raw text work b n class.Leading (Path k) h = (refl, tt)
class_raw text work b n class.Leading (Header l) h = (refl, h)
class_raw text work b n class.Leading (Comment l) h = (refl, h)
class_raw text work b n class.Leading (Blank l) h = (refl, h)
class_raw text work b n class.Leading (Other l) h = (refl, tt)
class_raw text work b n class.Other (Segment k) h = (refl, tt)
class_raw text work b n class.Other (Link k) h = (refl, tt)
class_raw text work b n class.Other (Path k) h = (refl, tt)
class_raw text work b n class.Other (Header l) h = (refl, tt)
class_raw text work b n class.Other (Comment l) h = (refl, tt)
class_raw text work b n class.Other (Blank l) h = (refl, tt)
class_raw text work b n class.Other (Other l) h = (refl, h)

module _ {text work : List ℕ} {b : Bases} {n : Counts} {i : ℕ} {e : Record} {o : Option Place} (c : Class) (q : LineIs text work b n i e) (f : o ≡ raw_of c e) where
  pub raw_place : {p : Place} → o ≡ Some p → Inside text p
  raw_place s = rw (← f, s) at (class_raw text work b n c e q.fits).1

  -- nothing is written where it holds none
  pub raw_passed : {w : Writer} → o ≡ None → Puts w (raw_piece c text work b i) w
  unfolding raw_piece ended join
  raw_passed s = rw (q.entry, (class_raw text work b n c e q.fits).0, ← f, s) puts_nothing

  -- else the line is
  pub raw_put : {p : Place} {line : List ℕ} {before after : Writer} → o ≡ Some p → line ≡ bytes_in text p → Puts before (end_line line) after → Puts before (raw_piece c text work b i) after
  unfolding raw_piece ended join
  raw_put s z v = rw (q.entry, (class_raw text work b n c e q.fits).0, ← f, s, append-nil, ← z) v

-- ---- segments and links

module _ {text work : List ℕ} {b : Bases} {i : ℕ} {line : List ℕ} {before after : Writer} where
  pub segment_put : {s : SegmentWords} → SegmentIs text work b i s → line ≡ bytes_in text s.line → Puts before (end_line line) after → Puts before (segment_piece text work b i) after
  unfolding segment_piece
  segment_put q z v = rw (q.segment, ← z) v

  -- the line of a link that is kept
  pub kept_put : (g : Layout) {e : Ends} {l : LinkWords} → e ≡ ends_no work g i → e.gone ≡ false → LinkIs text work b i l → line ≡ bytes_in text l.line
      → Puts before (end_line line) after → Puts before (kept_piece text work b g i) after
  unfolding kept_piece
  kept_put g f gone q z v = rw (← (ap (λ e. e.gone) f), gone, q.link, ← z) v

-- a link that is removed
pub kept_passed : (text work : List ℕ) (b : Bases) (g : Layout) (i : ℕ) {w : Writer} {e : Ends} → e ≡ ends_no work g i → e.gone ≡ true → Puts w (kept_piece text work b g i) w
unfolding kept_piece
kept_passed text work b g i {e = e} f z = rw (← (ap (λ e. e.gone) f), z) puts_nothing
