-- `path_lines::paths::put_steps` meets its contract: no steps, or one after the other. Assumes nothing.
use Rattle.path_lines.proofs.StepFields.{none_put, steps_put}
use Rattle.path_lines.proofs.paths.put_steps.Goals as goal

pub returns-then-steps : goal.returns-then-steps
returns-then-steps c = search none_put

pub returns-else-steps : goal.returns-else-steps
returns-else-steps c = search steps_put
