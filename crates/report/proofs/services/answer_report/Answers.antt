-- `report::services::answer_report` meets its contract: the text is refused, or reported. Assumes nothing.
use Rattle.std.proofs.lemmas.Result.{err_from_is_err_and}
use Rattle.report.proofs.Serving.{report_refused, input_tabled, ranked_input, input_reportable, report_answered}
use Rattle.report.proofs.services.answer_report.Goals as goal

pub returns-in_err-b : goal.returns-in_err-b
returns-in_err-b c =
    let p = err_from_is_err_and c.from_residual.result c.from_residual.ensures.1 in
    rw (p.1, p.2) (report_refused _ c.parse_gfa.ensures c.in_err-b.was)

pub invariant_of-ranked : goal.invariant_of-ranked
invariant_of-ranked c = record { readable = ranked_input c.parse_gfa.ensures c.in_ok-b.was c.rank_nodes-m.ensures }

pub rank_nodes-m-requires : goal.rank_nodes-m-requires
rank_nodes-m-requires c = input_tabled c.parse_gfa.ensures c.in_ok-b.was

pub write_report-requires : goal.write_report-requires
write_report-requires c = input_reportable c.parse_gfa.ensures c.in_ok-b.was c.rank_nodes-m.ensures

pub returns : goal.returns
returns c = report_answered c.parse_gfa.ensures c.in_ok-b.was _ _ c.totals_of-t.ensures c.rank_nodes-m.ensures c.write_report.ensures
