use Rattle.fold.proofs.Pairing.{pairing_start, pairing_more, pairing_end}
use Rattle.fold.proofs.pairs.count_new_pairs.Goals as goal

pub loop-k-init : goal.loop-k-init
loop-k-init c = pairing_start c.args.among.ordered

pub loop-k-preserved : goal.loop-k-preserved
loop-k-preserved c = search pairing_more

pub returns : goal.returns
returns c = search pairing_end
