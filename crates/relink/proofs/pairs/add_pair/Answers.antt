-- `relink::pairs::add_pair` meets its contract: where no link has the parts, the pair is added. Assumes nothing.
use Rattle.relink.proofs.Adders.{passed_added}
use mathlib.Core.Path.{refl}
use Rattle.relink.proofs.pairs.add_pair.Goals as goal

pub invariant_of-adder : goal.invariant_of-adder
invariant_of-adder c =
    let a = passed_added c.graph-graph.ensures c.at-sought.ensures c.requires c.find_link.ensures c.if-find_link.false c.with_link-adder.ensures in
    record { relinkable = a.ready; rows = a.grows.rows }

pub returns : goal.returns
returns c =
    record {
      same = record { text = refl; loan = refl; area = refl };
      adds = passed_added c.graph-graph.ensures c.at-sought.ensures c.requires c.find_link.ensures c.if-find_link.false c.with_link-adder.ensures;
    }
