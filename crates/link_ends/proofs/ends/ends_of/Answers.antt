-- `link_ends::ends::ends_of` meets its contract, by the searches for its nodes. Assumes nothing.
use Rattle.link_ends.proofs.Endings.{ends_are}
use Rattle.link_ends.proofs.ends.ends_of.Goals as goal

pub returns : goal.returns
returns c = search ends_are
