-- `normalize::services::answer_normalize` meets its contract: the text is refused, or its tables are answered. Assumes nothing.
use Rattle.std.proofs.lemmas.Result.{err_from_is_err_and}
use Rattle.normalize.proofs.Admitted.{input_loaded}
use Rattle.normalize.proofs.Deciding.{text_refused, text_answered}
use Rattle.normalize.proofs.services.answer_normalize.Goals as goal

pub returns-in_err-b : goal.returns-in_err-b
returns-in_err-b c =
    let p = err_from_is_err_and c.from_residual.result c.from_residual.ensures.1 in
    rw (p.1, p.2) (text_refused _ c.parse_gfa.ensures c.in_err-b.was)

pub answer_tables-requires : goal.answer_tables-requires
answer_tables-requires c = input_loaded c.parse_gfa.ensures c.in_ok-b.was

pub returns : goal.returns
returns c = text_answered _ _ c.parse_gfa.ensures c.in_ok-b.was c.answer_tables.ensures
