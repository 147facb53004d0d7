-- `spelling::spelling::put_spelling` meets its contract. Assumes nothing.
use Rattle.std.proofs.lemmas.Result.{err_from_is_err_and}
use Rattle.spelling.proofs.Spelled.{so_far_bad, so_far_more, so_far_start, so_far_end}
use Rattle.spelling.proofs.spelling.put_spelling.Goals as goal

pub loop-i-init : goal.loop-i-init
loop-i-init c = search so_far_start

pub returns-in_err-put_step : goal.returns-in_err-put_step
returns-in_err-put_step c =
    let p = err_from_is_err_and c.from_residual.result c.from_residual.ensures.1 in rw (p.1, p.2) (so_far_bad c.loop-i.invariant c.loop-i-test.true c.put_step.ensures c.in_err-put_step.was)

pub loop-i-preserved : goal.loop-i-preserved
loop-i-preserved c = so_far_more c.loop-i.invariant c.loop-i-test.true c.put_step.ensures c.in_ok-put_step.was

pub returns : goal.returns
returns c = search so_far_end
