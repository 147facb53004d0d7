-- `normalize::services::answer_tables` meets its contract: the text as it is, or folded. Assumes nothing.
use Rattle.normalize.proofs.Deciding.{tables_folded, tables_returned}
use Rattle.normalize.proofs.services.answer_tables.Goals as goal

pub returns-in-Some : goal.returns-in-Some
returns-in-Some c = tables_folded _ c.decide-d.ensures c.in-Some.is c.fold_text.ensures.folded

pub returns-in-None : goal.returns-in-None
returns-in-None c = tables_returned _ c.decide-d.ensures c.in-None.is c.return_text.ensures
