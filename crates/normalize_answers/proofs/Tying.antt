-- The tables and the definitions: what the passes found, as document 01's rules say it of the entries. Assumes nothing.
use Prim.Native.Nat.{ℕ}
use mathlib.Core.Bool.{true}
use mathlib.Core.List.{List, map}
use mathlib.Core.Path.{◌≡◌, refl, sym, ap, ◌∙◌}
use lib.ListN.{length}
use Rattle.gfa_spec.specs.Bytes.{any, count, sum, distinct}
use Rattle.gfa_spec.specs.Reading.{Entry, Segment}
use Rattle.gfa_spec.specs.Records.{segments, links, paths}
use Rattle.gfa_spec.specs.Runs.{runs}
use Rattle.normalize_spec.specs.Folding.{folded, is_folded_run, transform}
use Rattle.normalize_spec.specs.Links.{kept, added}
use Rattle.normalize_spec.specs.Counting.{folded_runs}
use Rattle.normalize_spec.proofs.Segments.{ids, paths_sound, sound_differ}
use Rattle.tables.specs.declared.tables.Bases.{Bases}
use Rattle.tables.specs.declared.tables.Counts.{Counts}
use Rattle.tables.specs.Segments.{ids_of}
use Rattle.tables.specs.Entries.{entries_at}
use Rattle.tables.proofs.Standing.{Standing}
use Rattle.tables.specs.ByNumber.{segments_of, paths_to}
use Rattle.normalize_tables.specs.declared.layout.Layout.{Layout}
use Rattle.normalize_tables.specs.declared.layout.Made.{Made}
use Rattle.normalize_tables.specs.News.{first_of, news_at, names_at, new_paths_at, keys_at}
use Rattle.normalize_tables.specs.Rewritten.{Folded, Relinked}
use Rattle.normalize_answers.specs.Tied.{Tied}

-- ---- tables that stay

pub tied_stands : {es : List Entry} {text w w' : List ℕ} {b : Bases} {n : Counts} → Tied es text w b n → Standing text w w' b n → Tied es text w' b n
tied_stands t s =
    record {
      entries = s.entries ∙ t.entries;
      of_segments = s.of_segments ∙ t.of_segments;
      of_links = s.of_links ∙ t.of_links;
      of_paths = s.of_paths ∙ t.of_paths;
    }

-- tied to the entries of the line table
pub tied_itself : {es : List Entry} {text w : List ℕ} {b : Bases} {n : Counts} → Tied es text w b n → Tied (entries_at text w b n.lines) text w b n
tied_itself t =
    record {
      entries = refl;
      of_segments = t.of_segments ∙ ap segments (sym t.entries);
      of_links = t.of_links ∙ ap links (sym t.entries);
      of_paths = t.of_paths ∙ ap paths (sym t.entries);
    }

-- ---- rules 4 to 6

-- no two IDs of segments and new segments are equal
pub names_apart : {text w : List ℕ} {b : Bases} {n : Counts} {g : Layout} {fs : List Segment} {m : Made} → Folded text w b n g fs m
    → distinct (ids_of (segments_of text w b n)) ≡ true → distinct (names_at text w b n g (first_of m.first) m.segs) ≡ true
unfolding names_at ids_of ids
names_apart {text} {w} {b} {n} {fs = fs} f d =
    rw f.news
    (sound_differ (segments_of text w b n) _
    (paths_sound (segments_of text w b n) fs (paths_to text w b n.paths)) d)

module _ {es : List Entry} (cap : ℕ) {text w : List ℕ} {b : Bases} {n : Counts} {g : Layout} {m : Made} (t : Tied es text w b n) (f : Folded text w b n g (folded es cap) m) where
  -- the new segments
  pub news_are : news_at text w b g (first_of m.first) m.segs ≡ (transform es cap).made.new
  unfolding transform
  news_are = f.news ∙ rw (t.of_segments, t.of_paths)

  -- the new paths
  pub paths_are : new_paths_at (names_at text w b n g (first_of m.first) m.segs) g.steps w g.paths n.paths ≡ (transform es cap).paths
  unfolding transform
  paths_are = f.paths ∙ rw (t.of_segments, t.of_paths)

  -- the runs that were turned into one step, and the paths that have one
  pub runs_are : m.runs ≡ sum (map (folded_runs (folded es cap)) (paths es))
  runs_are = f.runs ∙ rw t.of_paths

  pub changed_are : m.changed ≡ count (λ p. any (is_folded_run (folded es cap)) (runs p.steps)) (paths es)
  changed_are = f.changed ∙ rw t.of_paths

  -- the steps of the new paths
  pub steps_are : m.steps ≡ sum (map length (transform es cap).paths)
  steps_are = f.steps ∙ rw paths_are

  -- the added links
  pub keys_are : {extra : ℕ} → Relinked text w b n g (folded es cap) m extra
      → keys_at (names_at text w b n g (first_of m.first) m.segs) g.steps w g.added extra ≡ added es cap
  unfolding added kept
  keys_are r = r.keys ∙ rw (t.of_links, paths_are)
