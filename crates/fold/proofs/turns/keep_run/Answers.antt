-- `fold::turns::keep_run` meets its contract: its steps are put behind the others. Assumes nothing.
use mathlib.Core.Path.{refl}
use Rattle.fold.proofs.Turning.{keep_is}
use Rattle.fold.proofs.turns.keep_run.Goals as goal

pub invariant_of-paths : goal.invariant_of-paths
invariant_of-paths c = record { stage = (keep_is c.args.paths.now.stage c.requires.room c.requires.unit_lt_segs c.put_steps.ensures).grown.stage }

pub returns : goal.returns
returns c =
    record {
      same = record { text = refl; loan = refl; bases = refl; counts = refl; layout = refl };
      keeps = keep_is c.args.paths.now.stage c.requires.room c.requires.unit_lt_segs c.put_steps.ensures;
    }
