-- What the passes of a folding answer, for any entries that the tables are tied to. Document 01, "Folding".
use Rattle.std.specs.Prelude.{ℕ, ◌≤◌, Bool, List, ◌≡◌, length, Result}
use Rattle.gfa_spec.specs.Reading.{Entry, Segment}
use Rattle.gfa_spec.specs.Records.{paths}
use Rattle.gfa_spec.specs.Services.{bad_step}
use Rattle.normalize_spec.specs.Folding.{eligible, is_folded, folded}
use Rattle.normalize_spec.specs.Writing.{rewritten}
use Rattle.normalize_spec.specs.Counting.{unchanged, rewritten_stats}
use Rattle.normalize_spec.specs.Services.{normal, fold, normal_fitted}
use Rattle.refusals.specs.declared.refusal.Refusal.{Refusal}
use Rattle.tables.specs.declared.tables.Bases.{Bases}
use Rattle.tables.specs.declared.tables.Counts.{Counts}
use Rattle.normalize_tables.specs.declared.layout.Layout.{Layout}
use Rattle.normalize_tables.specs.declared.layout.Made.{Made}
use Rattle.normalize_tables.specs.declared.normalizer.Normalizer.{Normalizer}
use Rattle.normalize_tables.specs.Layout.{Source}
use Rattle.normalize_tables.specs.Normalizers.{SameTables}
use Rattle.normalize_tables.specs.Marks.{Marked}
use Rattle.normalize_tables.specs.News.{KeyRow}
use Rattle.normalize_tables.specs.Rewritten.{NewRows, Relinked}
use Rattle.work.specs.Rows.{EachRow}
use Rattle.rewrite.specs.Rewriting.{rewritten_from}
use Rattle.normalize_answers.specs.declared.written.Written.{Written}
use Rattle.normalize_answers.specs.declared.rewriting.Passed.{Passed}
use Rattle.normalize_answers.specs.declared.stats.NormalizeSelfLoopsStats.{NormalizeSelfLoopsStats}
use Rattle.normalize_answers.specs.Counters.{counters, rewritten_counters}
use Rattle.normalize_answers.specs.Answered.{NormalTold}
use Rattle.normalize_answers.specs.Tied.{Tied}

-- The words from `base` on are marks: 1 for the segments that pass some test, and 0 for the others. No struct holds this: it holds of the work area
-- at one stage only, of either table of marks once it is set, and is passed down one chain of calls.
pub record Marks (text work : List ℕ) (b : Bases) (n : Counts) (base : ℕ) : Type 0 where
  pub test : Segment → Bool
  pub marked : Marked test text work b n base

-- What is answered where some segment is folded: 18 or 19, or the rewritten text.
pub record FoldTextIs (text work : List ℕ) (b : Bases) (n : Counts) (g : Layout) (stats : NormalizeSelfLoopsStats) (out out' : List ℕ) (r : Result Written Refusal) : Type 0 where
  pub folds : (es : List Entry) (cap : ℕ) → Tied es text work b n → Marked (eligible es cap) text work b n g.eligible → counters stats ≡ unchanged es
      → NormalTold out out' r (normal_fitted (length out) (fold es cap (bad_step es (paths es))))

-- What is answered once no step is bad and the folded segments are marked and counted: the rewritten text.
pub record RewriteIs (text work : List ℕ) (b : Bases) (n : Counts) (g : Layout) (nodes : ℕ) (stats : NormalizeSelfLoopsStats) (out out' : List ℕ) (r : Result Written Refusal) : Type 0 where
  pub rewrites : (es : List Entry) (cap : ℕ) → Tied es text work b n → Marked (is_folded es cap) text work b n g.folded → nodes ≡ length (folded es cap) → counters stats ≡ unchanged es
      → NormalTold out out' r (normal_fitted (length out) (normal (rewritten es cap) (rewritten_stats es cap)))

-- What is asked where a `SettledGraph` is made of the tables: its ghost fields and those of its graph.
pub record Writable (text work : List ℕ) (b : Bases) (n : Counts) (g : Layout) (m : Made) (extra : ℕ) : Type 0 where
  pub source : Source text work b n g
  pub rows : NewRows work n g m
  pub keys : EachRow (KeyRow m.steps) 1 work g.added extra
  pub few : extra ≤ m.steps

-- What rules 4 to 6 left in the tables is what the definition makes of the entries es: which links are removed and added, the rewritten text, and its counters.
pub record Passes (es : List Entry) (cap : ℕ) (text work : List ℕ) (b : Bases) (n : Counts) (g : Layout) (p : Passed) : Type 0 where
  pub links : Relinked text work b n g (folded es cap) p.m p.l.added
  pub same_text : rewritten_from text work b n g (folded es cap) p.m p.l.added ≡ rewritten es cap
  pub same_counters : {nodes : ℕ} → nodes ≡ length (folded es cap) → rewritten_counters (unchanged es) nodes p.m p.l p.pairs ≡ rewritten_stats es cap

-- What rules 4 to 6 leave: a text that can be written, and the definition's text and counters.
pub record PassedIs (text work work' : List ℕ) (b : Bases) (n : Counts) (g : Layout) (p : Passed) : Type 0 where
  pub long : length work' ≡ length work
  pub writable : Writable text work' b n g p.m p.l.added
  pub passes : (es : List Entry) (cap : ℕ) → Tied es text work b n → Marked (is_folded es cap) text work b n g.folded → Passes es cap text work' b n g p

-- What is answered once the links are settled: the rewritten text of the tables, with these statistics.
pub record WriteIs (text work : List ℕ) (b : Bases) (n : Counts) (g : Layout) (m : Made) (extra : ℕ) (stats : NormalizeSelfLoopsStats) (out out' : List ℕ) (r : Result Written Refusal) : Type 0 where
  pub writes : (fs : List Segment) → Relinked text work b n g fs m extra → NormalTold out out' r (normal_fitted (length out) (normal (rewritten_from text work b n g fs m extra) (counters stats)))

-- ---- by what folds a text

-- Rules 4 to 6 are done.
pub record PassesText (old : Normalizer) (p : Passed) (new : Normalizer) : Type 0 where
  pub same : SameTables old new
  pub passed : PassedIs old.text.now old.work.now new.work.now old.b old.n old.g p

-- The rewritten text is answered.
pub record RewritesText (old : Normalizer) (nodes : ℕ) (stats : NormalizeSelfLoopsStats) (out out' : List ℕ) (r : Result Written Refusal) (new : Normalizer) : Type 0 where
  pub same : SameTables old new
  pub rewritten : RewriteIs old.text.now old.work.now old.b old.n old.g nodes stats out out' r

-- A bad step, or the rewritten text, is answered.
pub record FoldsText (old : Normalizer) (stats : NormalizeSelfLoopsStats) (out out' : List ℕ) (r : Result Written Refusal) (new : Normalizer) : Type 0 where
  pub same : SameTables old new
  pub folded : FoldTextIs old.text.now old.work.now old.b old.n old.g stats out out' r
