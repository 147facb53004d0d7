use mathlib.Core.Path.{refl}
use borrow.Author.Rules.{rules}
use Rattle.fold.proofs.Passing.{passing_ready}
use Rattle.fold.proofs.Transforming.{cleared_readable, passing_start, transform_is}
use Rattle.fold.proofs.Foldings.{path_given}
use Rattle.fold.proofs.paths.transform.Goals as goal

pub invariant_of-graph : goal.invariant_of-graph
invariant_of-graph c = record { readable = cleared_readable c.args.tables.now.source (rw c.unit_slots-slots.ensures at c.clear.ensures) }

pub loop-p-init : goal.loop-p-init
loop-p-init c = passing_start c.args.tables.now.source (rw c.unit_slots-slots.ensures at c.clear.ensures) c.requires c.first_number-first.ensures

pub invariant_of-paths : goal.invariant_of-paths
invariant_of-paths c = record { stage = c.loop-p.invariant.stage }

pub transform_path-requires : goal.transform_path-requires
transform_path-requires c = passing_ready c.loop-p.invariant c.loop-p-test.true

pub loop-p-preserved : goal.loop-p-preserved
loop-p-preserved c = path_given c.loop-p.invariant c.loop-p-test.true c.transform_path.ensures.next (search rules)

pub returns : goal.returns
returns c =
    record {
      same = record { text = refl; loan = refl; bases = refl; counts = refl; layout = refl };
      transformed = transform_is c.loop-p.invariant c.loop-p-test.false c.args.tables.now.source (rw c.unit_slots-slots.ensures at c.clear.ensures);
    }
