-- `lines::segments::add_segment` meets its contract. Assumes nothing.
use mathlib.Core.Path.{refl}
use Rattle.std.proofs.lemmas.Result.{err_from_is_err_and}
use Rattle.std.proofs.Common.{sym, ◌∙◌}
use Rattle.gfa_spec.proofs.Options.{none_is, some_is}
use Rattle.lines.proofs.AddedSegments.{s_short, s_known, s_insertable, s_added}
use Rattle.lines.proofs.NewLines.{same_none, ready_segment}
use Rattle.lines.proofs.segments.add_segment.Goals as goal

pub returns-in_err-row : goal.returns-in_err-row
returns-in_err-row c =
    let p = err_from_is_err_and c.from_residual.result c.from_residual.ensures.1 in
    rw (p.1, p.2) (record { same = same_none; added = s_short c.requires.0 c.segment_fields.ensures c.in_err-row.was })

pub returns-then-is_some : goal.returns-then-is_some
returns-then-is_some c =
    let f = some_is c.named.result (sym c.is_some.ensures ∙ c.if-is_some.true) in
    record { same = same_none; added = s_known c.requires.0 c.segment_fields.ensures c.in_ok-row.was c.named.ensures f.1 }

pub invariant_of-l : goal.invariant_of-l
invariant_of-l c = record { ready = ready_segment c.args.l.now.ready c.insert_segment.ensures }

pub insert_segment-requires : goal.insert_segment-requires
insert_segment-requires c =
    let f = none_is c.named.result (sym c.is_some.ensures ∙ c.if-is_some.false) in
    s_insertable c.segment_fields.ensures c.in_ok-row.was c.named.ensures f c.args.l.now.ready c.requires.1

pub returns : goal.returns
returns c =
    let f = none_is c.named.result (sym c.is_some.ensures ∙ c.if-is_some.false) in
    record {
      same = record { text = refl; loan = refl; bases = refl; counts = refl; line = refl };
      added = s_added c.requires.0 c.segment_fields.ensures c.in_ok-row.was c.named.ensures f c.args.l.now.ready c.insert_segment.ensures c.one_more.ensures;
    }
