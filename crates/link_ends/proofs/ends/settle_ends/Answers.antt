-- `link_ends::ends::settle_ends` meets its contract: the three words are those of the link. Assumes nothing.
use mathlib.Core.Path.{refl}
use Rattle.link_ends.proofs.Relinkers.{ends_given}
use Rattle.link_ends.proofs.ends.settle_ends.Goals as goal

pub invariant_of-links : goal.invariant_of-links
invariant_of-links c = record { relinkable = (ends_given c.graph-graph.ensures c.requires c.link.ensures c.ends_of-e.ensures c.put_ends.ensures).ready }

pub returns : goal.returns
returns c =
    record {
      same = record { text = refl; loan = refl; area = refl };
      settled = ends_given c.graph-graph.ensures c.requires c.link.ensures c.ends_of-e.ensures c.put_ends.ensures;
    }
