-- The tables of an admitted text, and what is known of them before any segment is folded.
use Rattle.std.specs.Prelude.{ℕ, true, false, Option, Some, None, List, ◌≡◌, length}
use Rattle.gfa_spec.specs.Bytes.{is_empty, distinct}
use Rattle.tables.specs.declared.tables.Bases.{Bases}
use Rattle.tables.specs.declared.tables.Counts.{Counts}
use Rattle.tables.specs.Segments.{ids_of}
use Rattle.tables.specs.Entries.{entries_at}
use Rattle.tables.specs.Tables.{Readable}
use Rattle.tables.specs.ByNumber.{segments_of}
use Rattle.runs.specs.Counts.{over_rows}
use Rattle.normalize_spec.specs.Folding.{eligible, folded}
use Rattle.normalize_spec.specs.Counting.{unchanged}
use Rattle.normalize_tables.specs.declared.layout.Layout.{Layout}
use Rattle.normalize_tables.specs.Layout.{Source}
use Rattle.normalize_tables.specs.Marks.{Marked}
use Rattle.normalize_answers.specs.Counters.{counters}
use Rattle.normalize_answers.specs.Tied.{Tied}
use Rattle.normalize_answers.specs.Folding.{Marks}
use Rattle.normalize.specs.declared.services.Decision.{Decision}

-- What the service knows of the tables of an admitted text.
pub record Loaded (text work : List ℕ) (b : Bases) (n : Counts) : Type 0 where
  pub tied : Tied (entries_at text work b n.lines) text work b n
  pub readable : Readable text work b n
  pub apart : distinct (ids_of (segments_of text work b n)) ≡ true
  pub visits : over_rows length text work b n ≡ n.steps

-- Where some segment is folded: where the normalizer's tables are, and the eligible segments are marked there.
pub record ToFold (text : List ℕ) (cap : ℕ) (work : List ℕ) (b : Bases) (n : Counts) (g : Layout) : Type 0 where
  pub source : Source text work b n g
  pub marks : Marks text work b n g.eligible
  pub marked : Marked (eligible (entries_at text work b n.lines) cap) text work b n g.eligible
  pub some : is_empty (folded (entries_at text work b n.lines) cap) ≡ false

-- by the cases of the Option: some segment is folded, or none is
abbrev pub DecidedSays : List ℕ → ℕ → List ℕ → Bases → Counts → Option Layout → Type 0
DecidedSays text cap work b n (Some g) = ToFold text cap work b n g
DecidedSays text cap work b n None = is_empty (folded (entries_at text work b n.lines) cap) ≡ true

-- Rules 1 and 2 of the entries of an admitted text: it is known whether any segment is folded.
pub record Decided (text : List ℕ) (cap : ℕ) (work work' : List ℕ) (b : Bases) (n : Counts) (r : Decision) : Type 0 where
  pub long : length work' ≡ length work
  pub tied : Tied (entries_at text work' b n.lines) text work' b n
  pub same : entries_at text work' b n.lines ≡ entries_at text work b n.lines
  pub counted : counters r.stats ≡ unchanged (entries_at text work' b n.lines)
  pub says : DecidedSays text cap work' b n r.folds
