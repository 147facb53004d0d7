-- `speller::services::answer_path` meets its contract: the text is refused, no path has the number, or the path is spelled. Assumes nothing.
use Rattle.std.proofs.lemmas.Result.{err_from_is_err_and}
use Rattle.speller.proofs.Serving.{answered_refused, answered_no_path, answered_path}
use Rattle.speller.proofs.services.answer_path.Goals as goal

pub returns-in_err-b : goal.returns-in_err-b
returns-in_err-b c =
    let p = err_from_is_err_and c.from_residual.result c.from_residual.ensures.1 in
    rw (p.1, p.2) (answered_refused _ c.parse_gfa.ensures c.in_err-b.was)

pub returns-then-n-k : goal.returns-then-n-k
returns-then-n-k c = answered_no_path _ c.parse_gfa.ensures c.in_ok-b.was _ c.if-n-k.true c.of.ensures

pub returns : goal.returns
returns c = answered_path _ c.parse_gfa.ensures c.in_ok-b.was _ c.if-n-k.false c.path-path.ensures c.spell_steps.ensures
