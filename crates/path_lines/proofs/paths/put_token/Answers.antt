-- `path_lines::paths::put_token` meets its contract, by the kind of the path. Assumes nothing.
use Rattle.path_lines.proofs.StepFields.{token_of_p, token_of_w}
use Rattle.path_lines.proofs.paths.put_token.Goals as goal

pub returns-in-P : goal.returns-in-P
returns-in-P c = search token_of_p

pub returns-in-W : goal.returns-in-W
returns-in-W c = search token_of_w
