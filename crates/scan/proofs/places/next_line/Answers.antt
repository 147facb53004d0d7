-- `scan::places::next_line` meets its contract, by where the first line feed is. Assumes nothing.
use Rattle.scan.proofs.LineEnds.{line_more, line_last}
use Rattle.scan.proofs.places.next_line.Goals as goal

pub returns-then-end-text : goal.returns-then-end-text
returns-then-end-text c = line_more c.requires c.find-end.ensures c.trimmed-size.ensures c.if-end-text.true

pub returns-else-end-text : goal.returns-else-end-text
returns-else-end-text c = line_last c.requires c.find-end.ensures c.trimmed-size.ensures c.if-end-text.false
