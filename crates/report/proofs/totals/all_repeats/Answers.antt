use Rattle.report.proofs.Repeating.{totalling_start, totalling_more, totalling_end}
use Rattle.report.proofs.totals.all_repeats.Goals as goal

pub loop-p-init : goal.loop-p-init
loop-p-init c = search totalling_start

pub loop-p-preserved : goal.loop-p-preserved
loop-p-preserved c = search totalling_more

pub returns : goal.returns
returns c = search totalling_end
