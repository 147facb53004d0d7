-- `normalize_answers::rewriting::rewritten_stats` meets its contract. Assumes nothing.
use mathlib.Core.Path.{refl}
use Rattle.normalize_answers.specs.Counters.{counters, rewritten_counters}
use Rattle.normalize_answers.proofs.rewriting.rewritten_stats.Goals as goal

pub returns : goal.returns
unfolding counters rewritten_counters
returns c = refl
