-- `reader::counting::count_text` meets its contract. Assumes nothing.
use Rattle.reader.proofs.Tallying.{counting_few, counting_more, counting_end}
use Rattle.reader.proofs.counting.count_text.Goals as goal

pub count_line-n-requires-clause-few : goal.count_line-n-requires-clause-few
count_line-n-requires-clause-few c = search counting_few

pub loop-line-preserved : goal.loop-line-preserved
loop-line-preserved c = counting_more c.loop-line.invariant c.in-Some.ensures.steps c.count_line-n.ensures

pub returns : goal.returns
returns c = counting_end c.loop-line.invariant c.in-None.ensures.steps
