-- `steps::walks::Walk::of` meets its contract. Assumes nothing.
use Rattle.std.proofs.Common.{refl}
use Rattle.steps.proofs.Marks.{all_steps}
use Rattle.steps.proofs.walks.Walk.of.Goals as goal

pub returns : goal.returns
returns c = all_steps refl refl refl
