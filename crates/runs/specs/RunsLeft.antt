-- The maximal runs that an iterator has left. Document 01, "Folding", rule 2.
use Rattle.std.specs.Prelude.{ℕ, ◌≤◌, List, ◌≡◌}
use Rattle.std.specs.Prelude.{Option, Some, None}
use Rattle.std.specs.declared.ops.Range.{Range}
use Rattle.tables.specs.declared.tables.Bases.{Bases}
use Rattle.runs.specs.declared.runs.Runs.{Runs}
use Rattle.runs.specs.Runs.{RunFrom}

-- The runs of the steps from `first` up to `end` are left.
pub record RunsOf (text work : List ℕ) (b : Bases) (first end : ℕ) (r : Runs) : Type 0 where
  pub its_text : r.graph.now.text.now ≡ text
  pub its_work : r.graph.now.work.now ≡ work
  pub its_bases : r.graph.now.b ≡ b
  pub its_first : r.at ≡ first
  pub its_end : r.end ≡ end

-- The first of the runs that are left was given, from its first step up to its end; the others are left.
pub record FirstRun (old : Runs) (r : Range ℕ) (new : Runs) : Type 0 where
  pub start : r.start ≡ old.at
  pub run : RunFrom old.graph.now.text.now old.graph.now.work.now old.graph.now.b old.at old.end r.end
  pub left : RunsOf old.graph.now.text.now old.graph.now.work.now old.graph.now.b r.end old.end new

-- No run is left.
pub record NoRun (old new : Runs) : Type 0 where
  pub none : old.end ≤ old.at
  pub same : new ≡ old

-- by the cases of the answer
abbrev pub RunGiven : Runs → Option (Range ℕ) → Runs → Type 0
RunGiven old (Some r) new = FirstRun old r new
RunGiven old None new = NoRun old new
