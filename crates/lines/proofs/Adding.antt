-- What is said of every line whose record is added: its steps, and that segments stay found; and raw lines. Assumes nothing.
use Rattle.std.specs.Prelude.{Ok}
use Prim.Native.Nat.{ℕ, ◌+◌, ◌*◌}
use native.Mathlib.Numerals.{add-one}
use native.Mathlib.Omega.{arith}
use mathlib.Core.List.{List, [], ◌∷◌}
use mathlib.Core.Path.{◌≡◌, refl}
use lib.ListN.{length}
use Rattle.tables.specs.declared.entry.Record.{Record}
use Rattle.tables.specs.declared.entry.Record.TheVariants.{Segment, Link, Path, Header, Comment, Blank, Other}
use Rattle.lines.specs.declared.sort.Sort.{Sort}
use Rattle.lines.specs.declared.sort.Sort.TheVariants as sort
use Rattle.tables.specs.declared.tables.Bases.{Bases}
use Rattle.tables.specs.declared.tables.Counts.{Counts}
use Rattle.gfa_spec.specs.Bytes.{sum, one, nil}
use Rattle.gfa_spec.specs.Reading.{choose, accepted, parse_line}
use Rattle.gfa_spec.specs.Records.{paths, collect}
use Rattle.gfa_spec.specs.Runs.{over_paths, step_count}
use Rattle.scan.specs.Places.{part_at}
use Rattle.tables.specs.Names.{NamesSlotted}
use Rattle.lines.specs.Sorts.{SortIs, read_as}
use Rattle.tables.specs.Tables.{one_more}
use Rattle.tables.specs.Segments.{segments_at, ids_of}
use Rattle.tables.specs.Entries.{entry_of}
use Rattle.lines.specs.Lines.{segs_of, links_of, paths_of, NewRow, Ready, AddedIs}
use Rattle.tables.proofs.NamesSlotted.{names_slotted_kept}
use Rattle.work.specs.Rows.{Range, Only}
use Rattle.work.proofs.Rows.{Apart, only_none, only_kept}
use Rattle.lines.proofs.Room.{spent_none}

-- ---- every line

-- a record that is no path has no steps
pub no_steps : (text work : List ℕ) (b : Bases) (r : Record) → paths_of r ≡ 0 → step_count (entry_of text work b r ∷ []) ≡ 0
unfolding step_count over_paths paths collect entry_of choose one nil sum
no_steps text work b (Segment k) h = refl
no_steps text work b (Link k) h = refl
no_steps text work b (Path k) h = absurd (omega arith)
no_steps text work b (Header l) h = refl
no_steps text work b (Comment l) h = refl
no_steps text work b (Blank l) h = refl
no_steps text work b (Other l) h = refl

-- the segments stay in their slots where words apart from their rows and from the slots' change
pub names_apart : {text work work' : List ℕ} {b : Bases} {n : Counts} {start size : ℕ} {rs : List Range} → Ready text work b n start size → Only rs work work'
    → Apart b.segs (b.segs + 7 * n.segs) rs → Apart b.heads b.links rs → length work' ≡ length work → NamesSlotted text work b n.segs → NamesSlotted text work' b n.segs
names_apart {text} {b = b} {n = n} y only rows heads long =
    names_slotted_kept text b n.segs y.heads long (only_kept b.segs (b.segs + 7 * n.segs) only rows) (only_kept b.heads b.links only heads)

-- ---- raw lines

-- the sort that was found
pub sorted : {text : List ℕ} {start size : ℕ} {r k : Sort} → SortIs text start size r → r ≡ k → SortIs text start size k
sorted s e = rw e at s

module _ {text work : List ℕ} {b : Bases} {n : Counts} {start size : ℕ} (y : Ready text work b n start size) where
  -- a raw line changes no table
  raw_added : (r : Record) → parse_line (ids_of (segments_at text work b.segs n.segs)) (part_at text start size) ≡ accepted (entry_of text work b r) →
      segs_of r ≡ 0 → links_of r ≡ 0 → paths_of r ≡ 0 → NewRow text work b n (one_more n 0 0 0 0) r → AddedIs text work work b n start size (Ok (r, one_more n 0 0 0 0))
  raw_added r e p q t row =
      record {
        says =
            record {
              read = e;
              lines = add-one n.lines;
              segs = omega (arith, p);
              links = omega (arith, q);
              paths = omega (arith, t);
              steps = omega (arith, no_steps text work b r t);
              row = row;
              visits = λ i l h. absurd (omega arith);
              spent = spent_none text start size n y.inside;
              names = λ h. let z : n.segs + 0 ≡ n.segs = omega arith in rw z h;
              long = refl;
              only = only_none;
            };
      }

  module _ {r : Sort} {m : Counts} (s : SortIs text start size r) (more : m ≡ one_more n 0 0 0 0) where
    pub raw_blank : r ≡ sort.Blank → AddedIs text work work b n start size (Ok (Blank (record { start = start; length = size }), m))
    unfolding read_as entry_of part_at
    raw_blank e = rw more (raw_added (Blank (record { start = start; length = size })) ((sorted s e).is _) refl refl refl y.inside)

    pub raw_comment : r ≡ sort.Comment → AddedIs text work work b n start size (Ok (Comment (record { start = start; length = size }), m))
    unfolding read_as entry_of part_at
    raw_comment e = rw more (raw_added (Comment (record { start = start; length = size })) ((sorted s e).is _) refl refl refl y.inside)

    pub raw_header : r ≡ sort.Header → AddedIs text work work b n start size (Ok (Header (record { start = start; length = size }), m))
    unfolding read_as entry_of part_at
    raw_header e = rw more (raw_added (Header (record { start = start; length = size })) ((sorted s e).is _) refl refl refl y.inside)

    pub raw_other : r ≡ sort.Other → AddedIs text work work b n start size (Ok (Other (record { start = start; length = size }), m))
    unfolding read_as entry_of part_at
    raw_other e = rw more (raw_added (Other (record { start = start; length = size })) ((sorted s e).is _) refl refl refl y.inside)
