-- The tables of a text stay as they are where their words do. Assumes nothing.
use Prim.Native.Nat.{ℕ, ◌+◌, ◌*◌, ◌≤◌, ◌<◌}
use native.Mathlib.Omega.{arith}
use mathlib.Core.List.{List}
use mathlib.Core.Logic.{inl, inr}
use mathlib.Core.Path.{◌≡◌, refl, ap}
use lib.ListN.{length}
use Rattle.tables.specs.declared.entry.Record.{Record}
use Rattle.tables.specs.declared.entry.Record.TheVariants.{Segment, Link, Path, Header, Comment, Blank, Other}
use Rattle.tables.specs.declared.tables.Bases.{Bases}
use Rattle.tables.specs.declared.tables.Counts.{Counts}
use Rattle.gfa_spec.specs.Reading.{link, segment, path}
use Rattle.work.specs.Rows.{Only}
use Rattle.tables.specs.Segments.{segments_at}
use Rattle.tables.specs.Links.{links_at}
use Rattle.tables.specs.Paths.{paths_at}
use Rattle.tables.specs.Entries.{record_at, entry_of, entry_at, entries_at, Fits}
use Rattle.tables.specs.Tables.{rows_of, Laid, Sound, Tables, Readable}
use Rattle.work.proofs.Rows.{KeptWords, only_kept, kept_within, rows_kept}
use Rattle.tables.proofs.NamesSlotted.{names_slotted_kept}
use Rattle.tables.proofs.TableRows.{segment_kept, segments_kept, segment_rows_kept, link_kept, links_kept, link_rows_kept, step_rows_kept, path_kept, paths_kept, path_row_kept, record_kept}

-- The rows that the counts say are kept.
pub record RowsKept (b : Bases) (n : Counts) (w w' : List ℕ) : Type 0 where
  pub lines : KeptWords b.lines (b.lines + 3 * n.lines) w w'
  pub segs : KeptWords b.segs (b.segs + 7 * n.segs) w w'
  pub links : KeptWords b.links (b.links + 8 * n.links) w w'
  pub paths : KeptWords b.paths (b.paths + 5 * n.paths) w w'
  pub steps : KeptWords b.steps (b.steps + 3 * n.steps) w w'

-- where only rows behind them changed
pub rows_behind : {w w' : List ℕ} (b : Bases) (n m : Counts) →
    (b.lines + 3 * m.lines ≤ b.segs) × (b.segs + 7 * m.segs ≤ b.heads) × (b.heads < b.links) × (b.links + 8 * m.links ≤ b.paths) × (b.paths + 5 * m.paths ≤ b.steps) →
    (n.lines ≤ m.lines) × (n.segs ≤ m.segs) × (n.links ≤ m.links) × (n.paths ≤ m.paths) → Only (rows_of b n m) w w' → RowsKept b n w w'
rows_behind b n m h l o =
    record {
      lines = only_kept b.lines (b.lines + 3 * n.lines) o (inl (omega arith), (inl (omega arith), (inl (omega arith), (inl (omega arith), (inl (omega arith), (inl (omega arith), tt))))));
      segs = only_kept b.segs (b.segs + 7 * n.segs) o (inr (omega arith), (inl (omega arith), (inl (omega arith), (inl (omega arith), (inl (omega arith), (inl (omega arith), tt))))));
      links = only_kept b.links (b.links + 8 * n.links) o (inr (omega arith), (inr (omega arith), (inl (omega arith), (inl (omega arith), (inl (omega arith), (inr (omega arith), tt))))));
      paths = only_kept b.paths (b.paths + 5 * n.paths) o (inr (omega arith), (inr (omega arith), (inr (omega arith), (inl (omega arith), (inl (omega arith), (inr (omega arith), tt))))));
      steps = only_kept b.steps (b.steps + 3 * n.steps) o (inr (omega arith), (inr (omega arith), (inr (omega arith), (inr (omega arith), (inl (omega arith), (inr (omega arith), tt))))));
    }

module _ {w w' : List ℕ} (text : List ℕ) (b : Bases) (n : Counts) (t : RowsKept b n w w') (s : Sound text w b n) where
  -- what a record says is kept, where its row is
  entry_kept : (r : Record) → Fits text n r → entry_of text w' b r ≡ entry_of text w b r
  unfolding entry_of
  entry_kept (Segment k) h = ap segment (segment_kept t.segs text (b.segs + 7 * k.0) (omega arith) (omega arith))
  entry_kept (Link k) h = ap link (link_kept t.links text (b.links + 8 * k.0) (omega arith) (omega arith))
  entry_kept (Path k) h = ap path (path_kept text b.steps (b.paths + 5 * k.0) n.steps t.paths (omega arith) (omega arith) t.steps (s.paths.row k.0 h))
  entry_kept (Header l) h = refl
  entry_kept (Comment l) h = refl
  entry_kept (Blank l) h = refl
  entry_kept (Other l) h = refl

  -- and so is the line table
  pub entries_kept : entries_at text w' b n.lines ≡ entries_at text w b n.lines
  unfolding entries_at entry_at
  entries_kept =
      rows_kept (entry_at text b) 3 b.lines n.lines
      (λ i h.
      rw (record_kept t.lines text (b.lines + 3 * i) (omega arith) (omega arith))
      (entry_kept (record_at w (b.lines + 3 * i)) (s.lines.row i h).fits))

  -- and what may be relied on, where the words of the slots are kept too
  pub sound_kept : b.heads < b.links → KeptWords b.heads b.links w w' → length w' ≡ length w → Sound text w' b n
  sound_kept h k e =
      record {
        lines = record { row = λ i h. record { fits = rw (record_kept t.lines text (b.lines + 3 * i) (omega arith) (omega arith)) (s.lines.row i h).fits } };
        segs = segment_rows_kept t.segs text b.segs n.segs (omega arith) (omega arith) s.segs;
        links = link_rows_kept t.links text b.links n.links (omega arith) (omega arith) s.links;
        paths = record { row = λ i h. path_row_kept t.paths text (b.paths + 5 * i) (omega arith) (omega arith) (omega arith) (s.paths.row i h) };
        steps = step_rows_kept t.steps text b.steps n.steps (omega arith) (omega arith) s.steps;
        names = names_slotted_kept text b n.segs h e t.segs k s.names;
      }

-- What later passes may write behind the step table's rows: the tables say the same.
pub record Standing (text w w' : List ℕ) (b : Bases) (n : Counts) : Type 0 where
  pub entries : entries_at text w' b n.lines ≡ entries_at text w b n.lines
  pub of_segments : segments_at text w' b.segs n.segs ≡ segments_at text w b.segs n.segs
  pub of_links : links_at text w' b.links n.links ≡ links_at text w b.links n.links
  pub of_paths : paths_at text b.steps w' b.paths n.paths ≡ paths_at text b.steps w b.paths n.paths
  pub sound : length w' ≡ length w → Sound text w' b n

-- where the words up to the end of the step table's rows are kept
pub tables_stand : {text w w' : List ℕ} {b : Bases} {n : Counts} {room : ℕ} → Laid b n room → Sound text w b n → KeptWords b.lines (b.steps + 3 * n.steps) w w' →
    Standing text w w' b n
tables_stand {text} {b = b} {n = n} l s k =
    let t : RowsKept b n _ _ =
    record {
      lines = kept_within b.lines (b.lines + 3 * n.lines) k (omega arith) (omega arith);
      segs = kept_within b.segs (b.segs + 7 * n.segs) k (omega arith) (omega arith);
      links = kept_within b.links (b.links + 8 * n.links) k (omega arith) (omega arith);
      paths = kept_within b.paths (b.paths + 5 * n.paths) k (omega arith) (omega arith);
      steps = kept_within b.steps (b.steps + 3 * n.steps) k (omega arith) (omega arith);
    }
    in
    record {
      entries = entries_kept text b n t s;
      of_segments = segments_kept t.segs text b.segs n.segs (omega arith) (omega arith);
      of_links = links_kept t.links text b.links n.links (omega arith) (omega arith);
      of_paths = paths_kept text b.steps b.paths n.paths n.steps t.paths t.steps s.paths;
      sound = sound_kept text b n t s l.heads (kept_within b.heads b.links k (omega arith) (omega arith));
    }

-- tables that were read may be read again
pub readable : {text before work : List ℕ} {b : Bases} {n : Counts} → Tables text before work b n → Readable text work b n
readable t = record { laid = t.laid; few = t.few; sound = t.sound }
