-- `lines::links::add_link` meets its contract. Assumes nothing.
use mathlib.Core.Path.{refl}
use Rattle.std.proofs.lemmas.Result.{err_from_is_err_and}
use Rattle.lines.proofs.AddedLinks.{l_refused, l_added}
use Rattle.lines.proofs.NewLines.{same_none, ready_link}
use Rattle.lines.proofs.links.add_link.Goals as goal

pub returns-in_err-row : goal.returns-in_err-row
returns-in_err-row c =
    let p = err_from_is_err_and c.from_residual.result c.from_residual.ensures.1 in
    rw (p.1, p.2) (record { same = same_none; added = l_refused c.requires c.link_fields.ensures c.in_err-row.was })

pub invariant_of-l : goal.invariant_of-l
invariant_of-l c = record { ready = ready_link c.args.l.now.ready c.in_ok-row.row c.put_link.ensures }

pub returns : goal.returns
returns c =
    record {
      same = record { text = refl; loan = refl; bases = refl; counts = refl; line = refl };
      added = l_added c.requires c.link_fields.ensures c.in_ok-row.was c.args.l.now.ready c.put_link.ensures c.one_more.ensures;
    }
