-- `rewrite::lines::put_raw_line` meets its contract: the line is of another class, or it is written. Assumes nothing.
use Rattle.rewrite.proofs.RawLines.{raw_place, raw_passed, raw_put}
use Rattle.rewrite.proofs.lines.put_raw_line.Goals as goal

pub of-requires : goal.of-requires
of-requires c = search raw_place

pub returns-in-Some : goal.returns-in-Some
returns-in-Some c = search raw_put

pub returns-in_default : goal.returns-in_default
returns-in_default c = search raw_passed
