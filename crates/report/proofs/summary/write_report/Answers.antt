-- `report::summary::write_report` meets its contract: no room, or the report in front. Assumes nothing.
use borrow.Author.Rules.{rules}
use Rattle.reader.proofs.Serving.{full, fits}
use Rattle.report.proofs.summary.write_report.Goals as goal

pub returns-then-room-need : goal.returns-then-room-need
returns-then-room-need c = full c.new-w.ensures.starts c.put_report.ensures _ c.if-room-need.true c.of.ensures

pub returns : goal.returns
returns c = fits c.new-w.ensures.starts c.put_report.ensures c.if-room-need.false c.new.ensures.starts c.put_report-2.ensures (search rules)
