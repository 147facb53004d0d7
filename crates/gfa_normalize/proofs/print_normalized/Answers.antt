-- `gfa_normalize::print_normalized` meets its contract: a text that is too long, or the service's answer. Assumes nothing.
use Rattle.console.proofs.Printing.{prints_long, prints_limited, prints_answer}
use Rattle.gfa_normalize.proofs.Numbers.{numbered}
use Rattle.gfa_normalize.proofs.print_normalized.Goals as goal

pub returns-then-is_long : goal.returns-then-is_long
returns-then-is_long c = prints_long _ _ c.is_long.ensures c.if-is_long.true c.refuse_long.ensures

pub returns : goal.returns
returns c =
    prints_limited _ _ c.is_long.ensures c.if-is_long.false
    (prints_answer _ _ (numbered _ _ _ _) c.normalize_self_loop_runs-result.ensures.answer c.normalize_self_loop_runs-result.ensures.output c.show.ensures)
