-- `normalize_answers::rewriting::write_text` meets its contract: no room, or the text in front. Assumes nothing.
use borrow.Author.Rules.{rules}
use Rattle.normalize_answers.proofs.Rewrites.{write_full, write_all}
use Rattle.normalize_answers.proofs.rewriting.write_text.Goals as goal

pub returns-then-room-need : goal.returns-then-room-need
returns-then-room-need c = write_full c.new-w.ensures.starts c.put_rewritten.ensures _ c.if-room-need.true c.of.ensures

pub returns : goal.returns
returns c = write_all c.new-w.ensures.starts c.put_rewritten.ensures c.if-room-need.false c.new.ensures.starts c.put_rewritten-2.ensures (search rules)
