-- What a P or W line says. Document 01, refusals 12 to 17.
use Rattle.std.specs.Prelude.{Result, Ok, Err}
use Rattle.refusals.specs.declared.reason.Reason.{Reason}
use Rattle.refusals.specs.Reasons.{number_of}
use Rattle.std.specs.Prelude.{ℕ, ◌+◌, ◌*◌, ◌≤◌, List, [], ◌∷◌, ◌≡◌, length}
use Rattle.gfa_spec.specs.Reading.{path, accepted, refused, fields}
use Rattle.scan.specs.Places.{part_at}
use Rattle.work.specs.Rows.{EachRow, span, Only}
use Rattle.tables.specs.declared.tables.Bases.{Bases}
use Rattle.tables.specs.declared.tables.Counts.{Counts}
use Rattle.tables.specs.declared.kinds.PathKind.{PathKind}
use Rattle.tables.specs.Paths.{kind_in, parse_path, path_fields}
use Rattle.tables.specs.Steps.{steps_at, StepRow}

-- The line is accepted, and its m steps stand in the step table, behind the counts n; only their rows changed.
pub record PathHolds (text work work' : List ℕ) (b : Bases) (n : Counts) (start size : ℕ) (kind : PathKind) (m : ℕ) : Type 0 where
  pub read : parse_path (kind_in kind) (fields (part_at text start size))
      ≡ accepted
      (path
      (record {
        kind = kind_in kind;
        fields = path_fields (kind_in kind) (fields (part_at text start size));
        steps = steps_at text work' (b.steps + 3 * n.steps) m;
      }))
  pub few : 2 * m + 3 ≤ size
  pub rows : EachRow (StepRow text) 3 work' (b.steps + 3 * n.steps) m
  pub long : length work' ≡ length work
  pub only : Only (span (b.steps + 3 * n.steps) (b.steps + 3 * n.steps + 3 * m) ∷ []) work work'

-- The line is refused with this number; only words behind the rows of the step table changed.
pub record PathRefused (text work work' : List ℕ) (b : Bases) (n : Counts) (start size : ℕ) (kind : PathKind) (k : ℕ) : Type 0 where
  pub read : parse_path (kind_in kind) (fields (part_at text start size)) ≡ refused k
  pub long : length work' ≡ length work
  pub only : Only (span (b.steps + 3 * n.steps) (b.steps + 3 * n.steps + 3 * size) ∷ []) work work'

-- by the cases of the answer
abbrev pub PathSays : List ℕ → List ℕ → List ℕ → Bases → Counts → ℕ → ℕ → PathKind → Result ℕ Reason → Type 0
PathSays text work work' b n start size kind (Ok m) = PathHolds text work work' b n start size kind m
PathSays text work work' b n start size kind (Err k) = PathRefused text work work' b n start size kind (number_of k)

-- What is said of a P or W line whose steps were read.
pub record PathStepsAre (text work work' : List ℕ) (b : Bases) (n : Counts) (start size : ℕ) (kind : PathKind) (r : Result ℕ Reason) : Type 0 where
  pub says : PathSays text work work' b n start size kind r
