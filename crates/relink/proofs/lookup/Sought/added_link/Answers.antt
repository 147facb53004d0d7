use Rattle.relink.proofs.Lookups.{added_step, comparing_start, comparing_more}
use Rattle.relink.proofs.lookup.Sought.added_link.Goals as goal

pub pair_at-other-requires : goal.pair_at-other-requires
pair_at-other-requires c = search added_step

pub loop-i-init : goal.loop-i-init
loop-i-init c = search comparing_start

pub loop-i-preserved : goal.loop-i-preserved
loop-i-preserved c = search comparing_more
