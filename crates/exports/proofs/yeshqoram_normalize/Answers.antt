-- `exports::yeshqoram_normalize` meets its contract. Assumes nothing.
use Rattle.exports.proofs.yeshqoram_normalize.Goals as goal

pub returns : goal.returns
returns c = rw c.new.ensures at c.normalize_repeat_self_loops.ensures
