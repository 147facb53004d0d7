-- What is added, by the graph that is lent. Assumes nothing.
use Prim.Native.Nat.{ℕ, ◌+◌, ◌≤◌, ◌<◌}
use mathlib.Core.Bool.{Bool, true, false}
use mathlib.Core.Path.{◌≡◌, refl, ap, ◌∙◌}
use lib.Dec.{eqb}
use lib.ListN.{set}
use Rattle.std.proofs.Props.{props}
use Rattle.normalize_tables.specs.declared.new_graph.NewGraph.{NewGraph}
use Rattle.tables.specs.declared.path_steps.Steps.{Steps}
use Rattle.normalize_tables.specs.NewByNumber.{NewPathIs}
use Rattle.relink.specs.declared.lookup.Sought.{Sought}
use Rattle.relink.specs.declared.tallies.Tally.{Tally}
use Rattle.relink.specs.declared.adder.Adder.{Adder}
use Rattle.relink.specs.Relinking.{PairIs, LinkFound, with_link, none_added, PairAdded}
use Rattle.relink.specs.Sought.{SoughtIs}
use Rattle.relink.specs.Adders.{AdderGraph, SameGraph, AddsPair}
use Rattle.relink.proofs.Adding.{pair_there, pair_added}

-- none is added where none is counted: `few` has one proof
pub adds_none : (h : 0 ≤ 0) → ◌≡◌ {A = Tally} (record { added = 0; loops = 0; few = h }) none_added
adds_none h = ap (λ few. record { added = 0; loops = 0; few = few }) (none_prop h (none_added.few))
  where
    none_prop : IsProp (0 ≤ 0)
    none_prop = hlevel props

pub same_none : {a : Adder} → SameGraph a a
same_none = record { text = refl; loan = refl; area = refl }

pub same_then : {a b c : Adder} → SameGraph a b → SameGraph b c → SameGraph a c
same_then s t = record { text = t.text ∙ s.text; loan = t.loan ∙ s.loan; area = t.area ∙ s.area }

-- the graph that is lent reads what the adder has
module _ {a : Adder} {g : NewGraph} (o : AdderGraph a g) where
  pub path_in : {p : ℕ} {r : Steps} → NewPathIs g.work.now g.a.n g.a.g g.a.m p r → NewPathIs a.work.now a.a.n a.a.g a.a.m p r
  path_in q = rw (o.work, o.area) at q

  module _ {step : ℕ} {k : Sought} (q : SoughtIs g step k) where
    pair_in : PairIs a.work.now a.a.n a.a.g a.a.m step k.pair
    pair_in = rw (o.work, o.area) at q.pair

    module _ {f : Bool} (h : (step + 1 < a.a.m.steps) × (a.tally.added < a.a.n.steps))
        (t : LinkFound k.graph.text.now k.graph.work.now k.graph.a.b k.graph.a.n k.graph.a.g k.graph.a.m a.tally.added k.pair f) where
      found_in : LinkFound a.text.now a.work.now a.a.b a.a.n a.a.g a.a.m a.tally.added k.pair f
      found_in = rw (o.text, o.work, o.area) at (rw q.graph at t)

      -- a link has the parts
      pub passed_there : f ≡ true → AddsPair a step a
      passed_there e = record { same = same_none; adds = pair_there a.tally (a.relinkable, a.rows) h pair_in found_in e }

      -- none has them
      pub passed_added : {r : Tally} → f ≡ false → r ≡ with_link a.tally (eqb k.pair.first.node k.pair.second.node)
          → PairAdded a.text.now a.work.now (set a.work.now (a.a.g.added + a.tally.added) step) a.a.b a.a.n a.a.g a.a.m a.tally step r
      passed_added e put = pair_added a.tally (a.relinkable, a.rows) h pair_in found_in e put
