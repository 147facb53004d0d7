-- `path_lines::paths::put_w_token` meets its contract, piece by piece. Assumes nothing.
use Rattle.path_lines.proofs.StepFields.{token_w}
use Rattle.path_lines.proofs.paths.put_w_token.Goals as goal

pub returns : goal.returns
returns c = search token_w
