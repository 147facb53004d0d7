-- A relinker's tables, which stay the same. Assumes nothing.
use Prim.Native.Nat.{ℕ, ◌<◌}
use mathlib.Core.List.{List}
use mathlib.Core.Path.{refl, ◌∙◌}
use Rattle.tables.specs.declared.rows.LinkWords.{LinkWords}
use Rattle.tables.specs.ByNumber.{LinkIs}
use Rattle.normalize_tables.specs.declared.rows.Ends.{Ends}
use Rattle.normalize_tables.specs.declared.new_graph.NewGraph.{NewGraph}
use Rattle.normalize_tables.specs.NewByNumber.{EndsPut}
use Rattle.link_ends.specs.declared.relinker.Relinker.{Relinker}
use Rattle.link_ends.specs.LinkEnds.{EndsIs, EndsSettled}
use Rattle.link_ends.specs.Relinkers.{RelinkerGraph, SameLinks}
use Rattle.link_ends.proofs.Endings.{ends_settled}

pub same_none : {l : Relinker} → SameLinks l l
same_none = record { text = refl; loan = refl; area = refl }

pub same_then : {a b c : Relinker} → SameLinks a b → SameLinks b c → SameLinks a c
same_then s t = record { text = t.text ∙ s.text; loan = t.loan ∙ s.loan; area = t.area ∙ s.area }

-- a graph whose links are settled reads what the relinker has
module _ {l : Relinker} {g : NewGraph} (o : RelinkerGraph l g) where
  link_in : {i : ℕ} {r : LinkWords} → LinkIs g.text.now g.work.now g.a.b i r → LinkIs l.text.now l.work.now l.a.b i r
  link_in q = rw (o.text, o.work, o.area) at q

  ends_in : {r : LinkWords} {e : Ends} → EndsIs g.text.now g.work.now g.a.b g.a.n g.a.g g.a.m r e → EndsIs l.text.now l.work.now l.a.b l.a.n l.a.g l.a.m r e
  ends_in q = rw (o.text, o.work, o.area) at q

  -- the ends of a link are put
  pub ends_given : {w' : List ℕ} {i : ℕ} {r : LinkWords} {e : Ends} → i < l.a.n.links → LinkIs g.text.now g.work.now g.a.b i r → EndsIs g.text.now g.work.now g.a.b g.a.n g.a.g g.a.m r e
      → EndsPut l.work.now w' l.a.g i e → EndsSettled l.text.now l.work.now w' l.a.b l.a.n l.a.g l.a.m i e.gone
  ends_given h k q put = ends_settled (l.relinkable, h) (link_in k) (ends_in q) put
