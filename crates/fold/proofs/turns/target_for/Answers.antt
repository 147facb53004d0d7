-- `fold::turns::target_for` meets its contract: the segment was made, or is made now. Assumes nothing.
use mathlib.Core.Path.{refl}
use Rattle.fold.proofs.Foldings.{finds_new}
use Rattle.fold.proofs.turns.target_for.Goals as goal

pub returns : goal.returns
returns c =
    record {
      same = record { text = refl; loan = refl; bases = refl; counts = refl; layout = refl };
      made = refl;
      target = search finds_new;
    }
