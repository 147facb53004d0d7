-- `fold::paths::transform_path` meets its contract: its runs are turned, and its row is put. Assumes nothing.
use mathlib.Core.Path.{refl}
use Rattle.fold.proofs.Foldings.{steps_room, steps_known, next_given, next_stage}
use Rattle.fold.proofs.paths.transform_path.Goals as goal

pub transform_path_steps-requires : goal.transform_path_steps-requires
transform_path_steps-requires c =
    record { room = steps_room c.graph-graph.ensures c.requires c.path-path.ensures; known = steps_known c.graph-graph.ensures c.requires c.path-path.ensures }

pub invariant_of-paths : goal.invariant_of-paths
invariant_of-paths c =
    record { stage = next_stage c.graph-graph.ensures c.requires c.path-path.ensures c.transform_path_steps.ensures refl refl c.put_new_path.ensures c.with_path-paths.ensures }

pub returns : goal.returns
returns c =
    let s = c.transform_path_steps.ensures.same in
    record {
      same = record { text = s.text; loan = s.loan; bases = s.bases; counts = s.counts; layout = s.layout };
      next = next_given c.graph-graph.ensures c.requires c.path-path.ensures c.transform_path_steps.ensures refl refl c.put_new_path.ensures c.with_path-paths.ensures;
    }
