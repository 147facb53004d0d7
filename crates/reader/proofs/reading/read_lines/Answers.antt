-- `reader::reading::read_lines` meets its contract. Assumes nothing.
use borrow.Author.Rules.{rules}
use Rattle.reader.proofs.Progress.{progress_start, progress_ready, progress_more, progress_back}
use Rattle.reader.proofs.reading.read_lines.Goals as goal

pub loop-line-init : goal.loop-line-init
loop-line-init c = rw c.into_iter-line-iterator.ensures.into_iter_gives (progress_start c.requires c.of-line-items.ensures.same c.of-line-items.ensures.left)

pub invariant_of-l : goal.invariant_of-l
invariant_of-l c = record { ready = progress_ready c.loop-line.invariant c.in-Some.ensures.steps }

pub loop-line-preserved : goal.loop-line-preserved
loop-line-preserved c = progress_back (progress_more c.loop-line.invariant c.in-Some.ensures.steps c.read_line.ensures.read c.in-Ok.is) (search rules)
