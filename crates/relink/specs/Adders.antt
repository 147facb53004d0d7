-- What is added. Document 01, "Folding", rule 6.
use Rattle.std.specs.Prelude.{ℕ, ◌≡◌}
use Rattle.normalize_tables.specs.declared.new_graph.NewGraph.{NewGraph}
use Rattle.relink.specs.declared.adder.Adder.{Adder}
use Rattle.relink.specs.Relinking.{PairAdded, PathAdded, PathsAdded}

-- The graph to which links are added.
pub record AdderGraph (a : Adder) (g : NewGraph) : Type 0 where
  pub text : g.text ≡ a.text
  pub work : g.work.now ≡ a.work.now
  pub area : g.a ≡ a.a

-- The text, the loan of the work area and what says where its tables are stay the same; more links may be added.
pub record SameGraph (old new : Adder) : Type 0 where
  pub text : new.text ≡ old.text
  pub loan : new.work.ghost_name ≡ old.work.ghost_name
  pub area : new.a ≡ old.a

-- The pair of a new step and the step behind it is added, where no link has its four parts.
pub record AddsPair (old : Adder) (step : ℕ) (new : Adder) : Type 0 where
  pub same : SameGraph old new
  pub adds : PairAdded old.text.now old.work.now new.work.now old.a.b old.a.n old.a.g old.a.m old.tally step new.tally

-- The pairs of a new path are.
pub record AddsPath (old : Adder) (first end : ℕ) (new : Adder) : Type 0 where
  pub same : SameGraph old new
  pub adds : PathAdded old.text.now old.work.now new.work.now old.a.b old.a.n old.a.g old.a.m old.tally first end new.tally

-- The pairs of all new paths are.
pub record AddsPaths (old new : Adder) : Type 0 where
  pub same : SameGraph old new
  pub adds : PathsAdded old.text.now old.work.now new.work.now old.a.b old.a.n old.a.g old.a.m new.tally
