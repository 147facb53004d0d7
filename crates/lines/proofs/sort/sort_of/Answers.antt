-- `lines::sort::sort_of` meets its contract, for the lines that have no first field. Assumes nothing.
use Rattle.lines.proofs.LineSorts.{sort_blank, sort_comment}
use Rattle.lines.proofs.sort.sort_of.Goals as goal

pub returns-then-line-eq0 : goal.returns-then-line-eq0
returns-then-line-eq0 c = search sort_blank

pub returns-then-first-eq35 : goal.returns-then-first-eq35
returns-then-first-eq35 c = search sort_comment
