-- `reader::input::admit` meets its contract. Assumes nothing.
use Rattle.reader.proofs.Admitting.{admit_long, admit_bad, admit_small}
use Rattle.reader.proofs.input.admit.Goals as goal

pub returns-then-text-gt1048576 : goal.returns-then-text-gt1048576
returns-then-text-gt1048576 c = admit_long c.if-text-gt1048576.true c.of.ensures

pub returns-in-Some : goal.returns-in-Some
returns-in-Some c = search admit_bad

pub returns-then-words-text : goal.returns-then-words-text
returns-then-words-text c = admit_small c.if-text-gt1048576.false c.bad_byte.ensures c.in_default.is c.if-words-text.true c.of-then-words-text.ensures
