-- `spelling::spelling::bad_step` meets its contract. Assumes nothing.
use Rattle.std.proofs.lemmas.Result.{err_from_is_err_and}
use Rattle.spelling.proofs.Spelled.{seeking_start, seeking_bad, seeking_more, seeking_end}
use Rattle.spelling.proofs.spelling.bad_step.Goals as goal

pub loop-i-init : goal.loop-i-init
loop-i-init c = seeking_start

pub returns-in_err-put_spelling : goal.returns-in_err-put_spelling
returns-in_err-put_spelling c =
    let p = err_from_is_err_and c.from_residual.result c.from_residual.ensures.1 in rw (p.1, p.2) (seeking_bad c.loop-i.invariant c.loop-i-test.true c.path-path.ensures c.put_spelling.ensures c.in_err-put_spelling.was)

pub loop-i-preserved : goal.loop-i-preserved
loop-i-preserved c =
    seeking_more c.loop-i.invariant c.loop-i-test.true c.path-path.ensures c.put_spelling.ensures c.in_ok-put_spelling.was

pub returns : goal.returns
returns c = search seeking_end
