-- `lines::links::link_fields` meets its contract. Assumes nothing.
use mathlib.Core.Path.{refl}
use Rattle.std.proofs.lemmas.Result.{err_from_is_err_and}
use Rattle.lines.proofs.LineFields.{end_by_reason, link_short, link_first, link_second, link_held}
use Rattle.lines.proofs.links.link_fields.Goals as goal

pub returns-in_default : goal.returns-in_default
returns-in_default c = link_short c.field_at.ensures c.in_default.is

pub returns-in_err-from : goal.returns-in_err-from
returns-in_err-from c =
    let p = err_from_is_err_and c.from_residual.result c.from_residual.ensures.1 in
    rw (p.1, p.2) (link_first c.field_at.ensures c.in-Some.is (end_by_reason refl c.end_of.ensures) c.in_err-from.was)

pub returns-in_err-to : goal.returns-in_err-to
returns-in_err-to c =
    let p = err_from_is_err_and c.from_residual-in_err-to.result c.from_residual-in_err-to.ensures.1 in
    rw (p.1, p.2) (link_second c.field_at.ensures c.in-Some.is (end_by_reason refl c.end_of.ensures) c.in_ok-from.was (end_by_reason refl c.end_of-2.ensures) c.in_err-to.was)

pub returns : goal.returns
returns c =
    link_held c.field_at.ensures c.in-Some.is (end_by_reason refl c.end_of.ensures) c.in_ok-from.was (end_by_reason refl c.end_of-2.ensures) c.in_ok-to.was c.requires
