-- `steps::p_steps::read_item` meets its contract, by what the item is. Assumes nothing.
use Rattle.steps.proofs.Items.{item_none, item_no_mark, item_no_name, item_put}
use Rattle.steps.proofs.p_steps.read_item.Goals as goal

pub returns-then-item-eq0 : goal.returns-then-item-eq0
returns-then-item-eq0 c = search item_none

pub returns-in_default : goal.returns-in_default
returns-in_default c = search item_no_mark

pub returns-then-size-eq0 : goal.returns-then-size-eq0
returns-then-size-eq0 c = search item_no_name

pub returns : goal.returns
returns c = search item_put
