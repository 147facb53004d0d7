-- What transforms paths, and what it makes. Document 01, "Folding", rule 4.
use Rattle.std.specs.Prelude.{ℕ, ◌≡◌}
use Rattle.tables.specs.declared.graph.Graph.{Graph}
use Rattle.normalize_tables.specs.declared.news.News.{News}
use Rattle.fold.specs.declared.folding.Folding.{Folding}
use Rattle.fold.specs.Turns.{with_segs, TargetIs, FoldIs, KeepIs, TurnIs, StepsTurned, NextIs}

-- The graph whose paths are transformed.
pub record FoldingGraph (f : Folding) (g : Graph) : Type 0 where
  pub text : g.text ≡ f.text
  pub work : g.work.now ≡ f.work.now
  pub bases : g.b ≡ f.a.b
  pub counts : g.n ≡ f.a.n

-- The new segments made so far.
pub record FoldingNews (f : Folding) (s : News) : Type 0 where
  pub text : s.text ≡ f.text
  pub work : s.work.now ≡ f.work.now
  pub area : s.a ≡ f.a

-- The text, the loan of the work area and what says where its tables are stay the same; what was made may have changed.
pub record SamePaths (old new : Folding) : Type 0 where
  pub text : new.text ≡ old.text
  pub loan : new.work.ghost_name ≡ old.work.ghost_name
  pub bases : new.a.b ≡ old.a.b
  pub counts : new.a.n ≡ old.a.n
  pub layout : new.a.g ≡ old.a.g

-- The node of the new segment of a unit and a run length, which is made where there is none; nothing else is.
pub record FindsTarget (old : Folding) (unit count r : ℕ) (new : Folding) : Type 0 where
  pub same : SamePaths old new
  pub made : new.a.m ≡ with_segs old.a.m new.a.m.segs
  pub target : TargetIs old.text.now old.work.now new.work.now old.a.b old.a.n old.a.g old.a.m unit count r new.a.m.segs

-- A run is folded into one step.
pub record FoldsRun (old : Folding) (unit count mark : ℕ) (new : Folding) : Type 0 where
  pub same : SamePaths old new
  pub folds : FoldIs old.text.now old.work.now new.work.now old.a.b old.a.n old.a.g old.a.m unit count mark new.a.m

-- A run keeps its steps.
pub record KeepsRun (old : Folding) (unit count mark : ℕ) (new : Folding) : Type 0 where
  pub same : SamePaths old new
  pub keeps : KeepIs old.text.now old.work.now new.work.now old.a.b old.a.n old.a.g old.a.m unit count mark new.a.m

-- The run of `count` steps from step i on is turned.
pub record TurnsRun (old : Folding) (i count : ℕ) (new : Folding) : Type 0 where
  pub same : SamePaths old new
  pub turns : TurnIs old.text.now old.work.now new.work.now old.a.b old.a.n old.a.g old.a.m i count new.a.m

-- The runs of the steps from `first` up to `end` are turned.
pub record TurnsSteps (old : Folding) (first end : ℕ) (new : Folding) : Type 0 where
  pub same : SamePaths old new
  pub turns : StepsTurned old.text.now old.work.now new.work.now old.a.b old.a.n old.a.g old.a.m first end new.a.m

-- Path p has become a new path.
pub record TransformsPath (old : Folding) (p : ℕ) (new : Folding) : Type 0 where
  pub same : SamePaths old new
  pub next : NextIs old.text.now old.work.now new.work.now old.a.b old.a.n old.a.g old.a.m p new.a.m
