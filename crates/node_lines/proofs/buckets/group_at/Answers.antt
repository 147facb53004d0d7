use Rattle.node_lines.proofs.Grouping.{number_room, grouping_start, grouping_stop, grouping_more, grouping_end}
use Rattle.node_lines.proofs.buckets.group_at.Goals as goal

pub node_at-long-requires : goal.node_at-long-requires
node_at-long-requires c = search number_room

pub loop-j-init : goal.loop-j-init
loop-j-init c = search grouping_start

pub node_at-here-requires : goal.node_at-here-requires
node_at-here-requires c = search number_room

pub returns-then-here-long : goal.returns-then-here-long
returns-then-here-long c = search grouping_stop

pub loop-j-preserved : goal.loop-j-preserved
loop-j-preserved c = search grouping_more

pub returns : goal.returns
returns c = search grouping_end
