-- What the passes rely on stays where only words behind the rows of the steps change. Assumes nothing.
use Prim.Native.Nat.{ℕ, ◌+◌, ◌≤◌}
use native.Mathlib.Omega.{arith}
use mathlib.Core.List.{List, [], ◌∷◌}
use mathlib.Core.Logic.{inl}
use mathlib.Core.Bool.{Bool}
use mathlib.Core.Path.{◌≡◌, ◌∙◌}
use lib.ListN.{length}
use Rattle.work.specs.Rows.{span, Only}
use Rattle.work.proofs.Rows.{KeptWords, only_kept, kept_within}
use Rattle.tables.specs.declared.tables.Bases.{Bases}
use Rattle.tables.specs.declared.tables.Counts.{Counts}
use Rattle.gfa_spec.specs.Reading.{Segment}
use Rattle.tables.specs.Entries.{entries_at}
use Rattle.tables.specs.ByNumber.{tables_end}
use Rattle.runs.specs.Counts.{over_rows}
use Rattle.tables.proofs.Standing.{Standing, tables_stand}
use Rattle.tables.proofs.ByNumber.{segment_stands}
use Rattle.normalize_tables.specs.declared.layout.Layout.{Layout}
use Rattle.normalize_tables.specs.Layout.{Source}
use Rattle.normalize_tables.specs.Marks.{Marked}

module _ {text w w' : List ℕ} {b : Bases} {n : Counts} {g : Layout} (s : Source text w b n g) (k : KeptWords b.lines (tables_end b n) w w') where
  -- the tables say the same
  pub standing : Standing text w w' b n
  standing = tables_stand s.readable.laid s.readable.sound k

  -- and so do the entries
  pub entries_stand : entries_at text w' b n.lines ≡ entries_at text w b n.lines
  entries_stand = standing.entries

  pub source_stands : length w' ≡ length w → Source text w' b n g
  source_stands e =
      let t = standing in
      record {
        apart = rw t.of_segments s.apart;
        visits = unfold over_rows in rw t.of_paths (unfold over_rows in s.visits);
        readable = record { laid = rw e s.readable.laid; few = s.readable.few; sound = t.sound e };
        placed = rw e s.placed;
      }

-- where only words behind the tables of the text change
module _ {text w w' : List ℕ} {b : Bases} {n : Counts} {g : Layout} (s : Source text w b n g) {from to : ℕ} (l : g.eligible ≤ from) (o : Only (span from to ∷ []) w w') where
  pub kept_behind : KeptWords b.lines (tables_end b n) w w'
  kept_behind = only_kept b.lines (tables_end b n) o (inl (omega (arith, s.placed)), tt)

  pub source_behind : length w' ≡ length w → Source text w' b n g
  source_behind = source_stands s kept_behind

-- marks stay where they and the tables of the text do
pub marked_stands : {p : Segment → Bool} {text w w' : List ℕ} {b : Bases} {n : Counts} {g : Layout} {hi : ℕ} (base : ℕ) → Source text w b n g → KeptWords 0 hi w w'
    → tables_end b n ≤ hi → base + n.segs ≤ hi → Marked p text w b n base → Marked p text w' b n base
marked_stands {b = b} {n = n} base s k t h q =
    let front = kept_within b.lines (tables_end b n) k (omega arith) t in
    record { mark = λ i m. k.word (base + i) (omega arith) (omega arith) ∙ q.mark i m ∙ rw (segment_stands s.readable front i m) }
