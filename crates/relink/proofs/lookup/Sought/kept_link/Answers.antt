-- `relink::lookup::Sought::kept_link` meets its contract: the search begins at the first link. Assumes nothing.
use Rattle.relink.proofs.Lookups.{seeking_start}
use Rattle.relink.proofs.lookup.Sought.kept_link.Goals as goal

pub loop-i-init : goal.loop-i-init
loop-i-init c = search seeking_start
