-- `console::refuse_long` meets its contract: the refusal of a long text, put by its lines. Assumes nothing.
use Rattle.console.proofs.Printing.{refused_long}
use Rattle.console.proofs.refuse_long.Goals as goal

pub returns : goal.returns
returns c = refused_long _ c.of.ensures c.from.ensures c.put_refusal.ensures
