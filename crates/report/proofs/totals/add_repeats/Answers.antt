use Rattle.report.proofs.Repeating.{repeating_start, repeating_few, repeating_more, repeating_end}
use Rattle.report.proofs.totals.add_repeats.Goals as goal

pub loop-run-init : goal.loop-run-init
loop-run-init c = repeating_start c.args.steps.ordered c.of-run-items.ensures c.into_iter-run-iterator.ensures.into_iter_gives

pub with_run-now-requires : goal.with_run-now-requires
with_run-now-requires c = repeating_few c.loop-run.invariant c.requires.1

pub loop-run-preserved : goal.loop-run-preserved
loop-run-preserved c = repeating_more c.loop-run.invariant c.in-Some.ensures.steps c.len.ensures.value c.with_run-now.ensures

pub returns : goal.returns
returns c = repeating_end c.loop-run.invariant c.in-None.ensures.steps
