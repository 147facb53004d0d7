-- `steps::p_steps::read_items` meets its contract, item by item. Assumes nothing.
use mathlib.Core.Path.{refl}
use Rattle.std.proofs.lemmas.Result.{err_from_is_err_and}
use Rattle.steps.proofs.Stepping.{stepping_bad, stepping_more}
use Rattle.steps.proofs.p_steps.read_items.Goals as goal

pub returns-in_err-n : goal.returns-in_err-n
returns-in_err-n c =
    let p = err_from_is_err_and c.from_residual.result c.from_residual.ensures.1 in
    rw (p.1, p.2)
    (stepping_bad c.loop-item.invariant c.in-Some.ensures.steps (record { text = refl; loan = refl; base = refl; field = refl }) c.read_item.ensures c.in_err-n.was)

pub loop-item-preserved : goal.loop-item-preserved
loop-item-preserved c =
    stepping_more c.loop-item.invariant c.in-Some.ensures.steps (record { text = refl; loan = refl; base = refl; field = refl }) c.read_item.ensures c.in_ok-n.was
