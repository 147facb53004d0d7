-- `normalize_answers::stats::returned_stats` meets its contract. Assumes nothing.
use mathlib.Core.Path.{refl}
use Rattle.normalize_answers.specs.Counters.{counters, input_counters}
use Rattle.normalize_answers.proofs.stats.returned_stats.Goals as goal

pub returns : goal.returns
unfolding counters input_counters
returns c = refl
