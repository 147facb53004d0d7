-- A pair for which a link is sought. Document 01, "Folding", rule 6.
use Rattle.std.specs.Prelude.{ℕ, ◌≡◌}
use Rattle.normalize_tables.specs.declared.new_graph.NewGraph.{NewGraph}
use Rattle.relink.specs.declared.lookup.Sought.{Sought}
use Rattle.relink.specs.Relinking.{PairIs}

-- The pair of new step `step` of a graph and the step behind it.
pub record SoughtIs (g : NewGraph) (step : ℕ) (s : Sought) : Type 0 where
  pub graph : s.graph ≡ g
  pub pair : PairIs g.work.now g.a.n g.a.g g.a.m step s.pair
