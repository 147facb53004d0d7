use Rattle.fold.proofs.Running.{running_start, running_end}
use Rattle.fold.proofs.Foldings.{same_none, turn_known, turn_room, turn_more}
use Rattle.fold.proofs.paths.transform_path_steps.Goals as goal

pub loop-i-init : goal.loop-i-init
loop-i-init c = (same_none, running_start (c.args.paths.now.stage, c.requires.room) (c.args.steps.ordered, c.requires.known.0, c.requires.known.1))

pub turn_run-requires : goal.turn_run-requires
turn_run-requires c =
    let q = c.loop-i.invariant in
    record { room = turn_room q.0 q.1 c.graph.ensures c.run_from-next.ensures; i_lt_steps = turn_known q.0 q.1 c.loop-i-test.true }

pub loop-i-preserved : goal.loop-i-preserved
loop-i-preserved c = let q = c.loop-i.invariant in turn_more q.0 q.1 c.graph.ensures c.run_from-next.ensures c.turn_run.ensures

pub returns : goal.returns
returns c = record { same = c.loop-i.invariant.0; turns = running_end c.loop-i.invariant.1 c.loop-i-test.false }
