-- `targets::marks::Marker::mark_name` meets its contract: no segment has the name, or the one that has it is marked. Assumes nothing.
use Rattle.targets.proofs.Markers.{same_none, named_in}
use Rattle.targets.proofs.Adding.{named_none, named_marked}
use mathlib.Core.Path.{refl}
use Rattle.targets.proofs.marks.Marker.mark_name.Goals as goal

pub returns-in_default : goal.returns-in_default
returns-in_default c =
    record { same = same_none; adds = named_none c.args.self.now.markable (named_in c.graph.ensures c.named.ensures) c.in_default.is }

pub invariant_of-self : goal.invariant_of-self
invariant_of-self c =
    record { markable = (named_marked c.args.self.now.markable (named_in c.graph.ensures c.named.ensures) c.in-Some.is).adds.ready }

pub returns-in-Some : goal.returns-in-Some
returns-in-Some c =
    record {
      same = record { text = refl; loan = refl; bases = refl; counts = refl; base = refl };
      adds = named_marked c.args.self.now.markable (named_in c.graph.ensures c.named.ensures) c.in-Some.is;
    }
