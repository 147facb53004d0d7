-- `normalize_answers::stats::no_stats` meets its contract. Assumes nothing.
use Rattle.normalize_answers.specs.Counters.{no_counters}
use Rattle.normalize_answers.proofs.stats.no_stats.Goals as goal

pub returns : goal.returns
unfolding no_counters
returns c = c.returned_stats.ensures
