-- `reader::input::bad_byte` meets its contract. Assumes nothing.
use Rattle.reader.proofs.BadBytes.{searching_start, searching_high, searching_last, searching_bare, searching_feed, searching_more, searching_end}
use Rattle.reader.proofs.input.bad_byte.Goals as goal
use Rattle.reader.proofs.input.bad_byte.Goals.{then-text-i-eq13+else-i-text+else-text-i-ne10, else-text-i-eq13}

pub loop-i-init : goal.loop-i-init
loop-i-init c = search searching_start

pub returns-then-text-i-ge128 : goal.returns-then-text-i-ge128
returns-then-text-i-ge128 c = search searching_high

pub returns-then-i-text : goal.returns-then-i-text
returns-then-i-text c = search searching_last

pub returns-then-text-i-ne10 : goal.returns-then-text-i-ne10
returns-then-text-i-ne10 c = search searching_bare

pub loop-i-preserved : goal.loop-i-preserved
loop-i-preserved c =
    elim c.if-text-i-eq13.branch [
      | then-text-i-eq13+else-i-text+else-text-i-ne10 w ↦ search searching_feed
      | else-text-i-eq13 w ↦ search searching_more
    ]

pub returns : goal.returns
returns c = search searching_end
