-- `next` of `steps::walks::Walk` meets its contract, by the two searches for a mark. Assumes nothing.
use Rattle.std.proofs.Common.{refl}
use Rattle.steps.proofs.Marks.{next_step}
use Rattle.steps.proofs.walks.WalkIterator.next.Goals as goal

pub returns-clause-steps : goal.returns-clause-steps
returns-clause-steps c =
    next_step c.args.self.now.inside.1 c.find_mark-at.ensures c.orientation_at.result c.if-at-self.false c.find_mark-stop.ensures c.orientation_at.ensures refl refl refl
