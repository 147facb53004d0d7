-- The transformation of all paths. Document 01, "Folding", rule 4.
use Rattle.std.specs.Prelude.{ℕ, ◌≤◌, ◌<◌, Bool, List, [], ◌∷◌, ◌≡◌, length}
use Rattle.gfa_spec.specs.Bytes.{keep, nth}
use Rattle.gfa_spec.specs.Reading.{Segment, Step, Path}
use Rattle.work.specs.Rows.{span, Only}
use Rattle.tables.specs.declared.tables.Bases.{Bases}
use Rattle.tables.specs.declared.tables.Counts.{Counts}
use Rattle.tables.specs.ByNumber.{path_no, segments_of}
use Rattle.normalize_tables.specs.declared.layout.Layout.{Layout}
use Rattle.normalize_tables.specs.declared.layout.Made.{Made}
use Rattle.normalize_tables.specs.declared.normalizer.Normalizer.{Normalizer}
use Rattle.normalize_tables.specs.Normalizers.{SameTables}
use Rattle.normalize_tables.specs.Marks.{Marked}
use Rattle.normalize_tables.specs.Rewritten.{NewRows, Folded}
use Rattle.fold.specs.Turns.{KnownIn, Room}

-- Each step of a path names a segment.
pub record KnownPath (ss : List Segment) (p : Path) : Type 0 where
  pub step : (k : ℕ) (d : Step) → k < length p.steps → KnownIn ss (nth k p.steps d).name.bytes

-- Every step of every path names a segment of the text. No struct holds this: it is known of the work area at one stage only, once no step is bad
-- and before the paths are transformed, and is passed down one chain of calls.
pub record AllKnown (text work : List ℕ) (b : Bases) (n : Counts) : Type 0 where
  pub paths : (p : ℕ) → p < n.paths → KnownPath (segments_of text work b n) (path_no text work b p)

-- What is asked before path p is transformed: there is room for its steps, which name segments, and not too many paths were changed.
pub record PathReady (text work : List ℕ) (b : Bases) (n : Counts) (m : Made) (p : ℕ) : Type 0 where
  pub there : p < n.paths
  pub room : Room n m (length (path_no text work b p).steps)
  pub known : KnownPath (segments_of text work b n) (path_no text work b p)
  pub changed : m.changed ≤ p
  pub small : m.changed < 4294967296

-- The new segments and the new paths stand in their tables, the folded segments being those whose marks say so; only words of the tables
-- from the last new segments up to the new steps have changed.
pub record TransformIs (text before work : List ℕ) (b : Bases) (n : Counts) (g : Layout) (m : Made) : Type 0 where
  pub folds : (p : Segment → Bool) → Marked p text before b n g.folded → Folded text work b n g (keep p (segments_of text before b n)) m
  pub rows : NewRows work n g m
  pub long : length work ≡ length before
  pub only : Only (span g.last g.added ∷ []) before work

-- All paths are transformed.
pub record Transforms (old : Normalizer) (m : Made) (new : Normalizer) : Type 0 where
  pub same : SameTables old new
  pub transformed : TransformIs old.text.now old.work.now new.work.now old.b old.n old.g m
