use Rattle.node_lines.proofs.Grouping.{bucketing_start, bucketing_more, bucketing_end}
use Rattle.node_lines.proofs.buckets.put_buckets.Goals as goal

pub loop-g-init : goal.loop-g-init
loop-g-init c = bucketing_start c.of-g-items.ensures c.into_iter-g-iterator.ensures.into_iter_gives

pub loop-g-preserved : goal.loop-g-preserved
loop-g-preserved c = bucketing_more c.loop-g.invariant c.in-Some.ensures.steps c.put_bucket_line.ensures

pub returns : goal.returns
returns c = bucketing_end c.loop-g.invariant c.in-None.ensures.steps
