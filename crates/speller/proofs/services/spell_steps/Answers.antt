-- `speller::services::spell_steps` meets its contract: a bad step, no room, or what is spelled in front. Assumes nothing.
use borrow.Author.Rules.{rules}
use Rattle.std.proofs.lemmas.Result.{err_from_is_err_and}
use Rattle.speller.proofs.Serving.{answered_bad, answered_full, answered_all}
use Rattle.speller.proofs.services.spell_steps.Goals as goal

pub returns-in_err-put_spelling : goal.returns-in_err-put_spelling
returns-in_err-put_spelling c =
    let p = err_from_is_err_and c.from_residual.result c.from_residual.ensures.1 in
    rw (p.1, p.2) (answered_bad c.put_spelling.ensures c.in_err-put_spelling.was)

pub returns-then-room-need : goal.returns-then-room-need
returns-then-room-need c = answered_full c.put_spelling.ensures c.in_ok-put_spelling.was c.new-w.ensures.starts _ c.if-room-need.true c.of.ensures

pub returns : goal.returns
returns c = answered_all c.put_spelling.ensures c.in_ok-put_spelling.was c.new-w.ensures.starts c.if-room-need.false c.new.ensures.starts c.put_spelling-2.ensures (search rules)
