-- `path_lines::paths::put_p_token` meets its contract, piece by piece. Assumes nothing.
use Rattle.path_lines.proofs.StepFields.{token_p}
use Rattle.path_lines.proofs.paths.put_p_token.Goals as goal

pub returns : goal.returns
returns c = search token_p
