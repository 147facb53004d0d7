use Rattle.fold.proofs.Pairing.{summing_start, summing_more, summing_end}
use Rattle.fold.proofs.pairs.new_pairs.Goals as goal

pub loop-i-init : goal.loop-i-init
loop-i-init c = summing_start

pub loop-i-preserved : goal.loop-i-preserved
loop-i-preserved c = search summing_more

pub returns : goal.returns
returns c = search summing_end
