-- `scan::places::Place::of` meets its contract: as many bytes stand between the two places. Assumes nothing.
use Rattle.scan.proofs.Cutting.{part_between}
use Rattle.scan.proofs.places.Place.of.Goals as goal

pub returns : goal.returns
returns c = part_between _ _ _
