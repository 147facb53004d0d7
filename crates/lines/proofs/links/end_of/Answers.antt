-- `lines::links::end_of` meets its contract. Assumes nothing.
use Rattle.std.proofs.lemmas.Result.{err_from_is_err_and}
use Rattle.lines.proofs.LineFields.{end_read, end_unread}
use Rattle.lines.proofs.links.end_of.Goals as goal

pub returns-in_err-orientation : goal.returns-in_err-orientation
returns-in_err-orientation g c =
    let p = err_from_is_err_and c.from_residual.result c.from_residual.ensures.1 in
    rw (p.1, p.2) (end_unread c.column-place.ensures c.column-sign.ensures (rw c.of.ensures at c.parse_orientation.ensures) c.in_err-orientation.was)

pub returns : goal.returns
returns g c =
    end_read c.column-place.ensures c.column-sign.ensures (rw c.of.ensures at c.parse_orientation.ensures) c.in_ok-orientation.was
