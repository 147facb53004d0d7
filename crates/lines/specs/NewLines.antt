-- What a line adds to the tables that it was about to be read into. Document 01, the refusals 5 to 17.
use Rattle.std.specs.Prelude.{ℕ, ◌≡◌, Result}
use Rattle.refusals.specs.declared.reason.Reason.{Reason}
use Rattle.tables.specs.declared.entry.Record.{Record}
use Rattle.tables.specs.declared.kinds.PathKind.{PathKind}
use Rattle.tables.specs.declared.tables.Counts.{Counts}
use Rattle.lines.specs.declared.new_line.NewLine.{NewLine}
use Rattle.lines.specs.declared.sort.Sort.{Sort}
use Rattle.tables.specs.Names.{NamesSlotted}
use Rattle.lines.specs.Lines.{AddedIs, LineRead}
use Rattle.lines.specs.PathLines.{PathStepsAre}
use Rattle.lines.specs.Sorts.{SortIs}

-- The line is of this sort: each function asks another.
abbrev pub IsOf : NewLine → Sort → Type 0
IsOf l k = SortIs l.text.now l.line.start l.line.size k

-- The segments of the lines before it are found by their IDs: asked where one is sought. When its own is put into its slot, the line's counts do not have it
-- yet, so that the line cannot hold this.
abbrev pub Findable : NewLine → Type 0
Findable l = NamesSlotted l.text.now l.work.now l.b l.n.segs

-- The line, and the tables that it is read into, are the same.
pub record SameLine (old new : NewLine) : Type 0 where
  pub text : new.text ≡ old.text
  pub loan : new.work.ghost_name ≡ old.work.ghost_name
  pub bases : new.b ≡ old.b
  pub counts : new.n ≡ old.n
  pub line : new.line ≡ old.line

-- The steps of the P or W line are put behind those of the step table, or the line is refused.
pub record AddsSteps (old : NewLine) (kind : PathKind) (a : Result ℕ Reason) (new : NewLine) : Type 0 where
  pub same : SameLine old new
  pub steps : PathStepsAre old.text.now old.work.now new.work.now old.b old.n old.line.start old.line.size kind a

-- The record of the line is added, or the line is refused.
pub record AddsRecord (old : NewLine) (a : Result (Record × Counts) Reason) (new : NewLine) : Type 0 where
  pub same : SameLine old new
  pub added : AddedIs old.text.now old.work.now new.work.now old.b old.n old.line.start old.line.size a

-- The line is read, or refused.
pub record ReadsLine (old : NewLine) (a : Result (Record × Counts) Reason) (new : NewLine) : Type 0 where
  pub same : SameLine old new
  pub read : LineRead old.text.now old.work.now new.work.now old.b old.n old.line.start old.line.size a
