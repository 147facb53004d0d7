-- `scan::places::trimmed` meets its contract, by the last byte of the range. Assumes nothing.
use Rattle.scan.proofs.LineEnds.{trimmed_empty, trimmed_hit, trimmed_miss}
use Rattle.scan.proofs.places.trimmed.Goals as goal

pub returns-then-start-end : goal.returns-then-start-end
returns-then-start-end c = trimmed_empty c.requires c.if-start-end.true

pub returns-then-text-end-eq13 : goal.returns-then-text-end-eq13
returns-then-text-end-eq13 c = trimmed_hit c.requires c.if-start-end.false c.if-text-end-eq13.true

pub returns : goal.returns
returns c = trimmed_miss c.requires c.if-start-end.false c.if-text-end-eq13.false
