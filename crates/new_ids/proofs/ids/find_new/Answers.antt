use Rattle.new_ids.proofs.Finding.{seeking_start}
use Rattle.new_ids.proofs.ids.find_new.Goals as goal

pub loop-j-init : goal.loop-j-init
loop-j-init c = search seeking_start
