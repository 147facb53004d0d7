-- What the tables say once the paths are transformed and the links are settled; `fs` are the folded segments. Document 01, "Folding", rules 4 to 6.
use Rattle.std.specs.Prelude.{ℕ, ◌+◌, ◌*◌, ◌≤◌, ◌<◌, not, List, map, ◌≡◌, length}
use Rattle.gfa_spec.specs.Bytes.{any, count, keep, join, sum}
use Rattle.gfa_spec.specs.Reading.{Segment}
use Rattle.gfa_spec.specs.Runs.{runs as runs_of}
use Rattle.normalize_spec.specs.Folding.{is_folded_run, none_made, transform_paths}
use Rattle.normalize_spec.specs.Links.{is_removed, key_of, adjacent, missing}
use Rattle.normalize_spec.specs.Counting.{folded_runs}
use Rattle.work.specs.Rows.{EachRow}
use Rattle.tables.specs.declared.tables.Bases.{Bases}
use Rattle.tables.specs.declared.tables.Counts.{Counts}
use Rattle.tables.specs.ByNumber.{link_no, segments_of, links_to, paths_to}
use Rattle.normalize_tables.specs.declared.layout.Layout.{Layout}
use Rattle.normalize_tables.specs.declared.layout.Made.{Made}
use Rattle.normalize_tables.specs.News.{first_of, first_number, news_at, names_at, keys_at, KeyRow}
use Rattle.normalize_tables.specs.NewByNumber.{new_paths_to, ends_no, SegmentRows, StepRows, PathRows}

-- The rows of the new segments, steps and paths may be relied on.
pub record NewRows (work : List ℕ) (n : Counts) (g : Layout) (m : Made) : Type 0 where
  pub few : m.steps + m.segs ≤ n.steps
  pub half : 2 * m.segs ≤ n.steps
  pub segs : SegmentRows work n g m.segs
  pub steps : StepRows work n g m
  pub paths : PathRows work n g m

-- The new segments and the new paths stand in the tables.
pub record Folded (text work : List ℕ) (b : Bases) (n : Counts) (g : Layout) (fs : List Segment) (m : Made) : Type 0 where
  pub first : first_of m.first ≡ first_number (segments_of text work b n)
  pub news : news_at text work b g (first_of m.first) m.segs ≡ (transform_paths (segments_of text work b n) fs (paths_to text work b n.paths) (none_made (segments_of text work b n))).made.new
  pub paths : new_paths_to (names_at text work b n g (first_of m.first) m.segs) work g n.paths
      ≡ (transform_paths (segments_of text work b n) fs (paths_to text work b n.paths) (none_made (segments_of text work b n))).paths
  pub steps : m.steps ≡ sum (map length (new_paths_to (names_at text work b n g (first_of m.first) m.segs) work g n.paths))
  pub runs : m.runs ≡ sum (map (folded_runs fs) (paths_to text work b n.paths))
  pub changed : m.changed ≡ count (λ p. any (is_folded_run fs) (runs_of p.steps)) (paths_to text work b n.paths)

-- The removed links are marked in the third word of their ends, and the added links stand in their table.
pub record Relinked (text work : List ℕ) (b : Bases) (n : Counts) (g : Layout) (fs : List Segment) (m : Made) (extra : ℕ) : Type 0 where
  pub removed : (i : ℕ) → i < n.links → (ends_no work g i).gone ≡ is_removed fs (link_no text work b i)
  pub keys : keys_at (names_at text work b n g (first_of m.first) m.segs) g.steps work g.added extra
      ≡ missing (map key_of (keep (λ l. not (is_removed fs l)) (links_to text work b n.links))) (join (map adjacent (new_paths_to (names_at text work b n g (first_of m.first) m.segs) work g n.paths)))
  pub rows : EachRow (KeyRow m.steps) 1 work g.added extra
  pub few : extra ≤ m.steps
