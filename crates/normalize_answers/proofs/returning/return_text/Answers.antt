-- `normalize_answers::returning::return_text` meets its contract: no room, or the text in front. Assumes nothing.
use mathlib.Core.Path.{refl}
use Rattle.normalize_answers.proofs.Answering.{no_room, room, in_front}
use Rattle.normalize_answers.proofs.returning.return_text.Goals as goal

pub returns-then-out-text : goal.returns-then-out-text
returns-then-out-text c = no_room _ _ _ c.if-out-text.true c.of.ensures

pub returns : goal.returns
returns c = room _ _ c.if-out-text.false refl refl (in_front _ c.if-out-text.false c.put_at.ensures)
