-- `fold::turns::fold_run` meets its contract: into a step on its target. Assumes nothing.
use Rattle.fold.proofs.Foldings.{folds_given, folds_stage}
use Rattle.fold.proofs.turns.fold_run.Goals as goal

pub invariant_of-paths : goal.invariant_of-paths
invariant_of-paths c = record { stage = folds_stage c.requires.room c.requires.unit_lt_segs.1 c.target_for-node.ensures c.put_steps.ensures }

pub returns : goal.returns
returns c =
    let t = c.target_for-node.ensures in
    record {
      same = record { text = t.same.text; loan = t.same.loan; bases = t.same.bases; counts = t.same.counts; layout = t.same.layout };
      folds = folds_given c.requires.room c.requires.unit_lt_segs.1 t c.put_steps.ensures;
    }
