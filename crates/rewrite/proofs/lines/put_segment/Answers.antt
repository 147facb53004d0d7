-- `rewrite::lines::put_segment` meets its contract, by the words of the segment. Assumes nothing.
use Rattle.rewrite.proofs.RawLines.{segment_put}
use Rattle.rewrite.proofs.lines.put_segment.Goals as goal

pub returns : goal.returns
returns c = search segment_put
