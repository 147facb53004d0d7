-- `scan::places::field_at` meets its contract, by what a run of the iterator's calls gave. Assumes nothing.
use Rattle.scan.proofs.Fields.{field_by_parts}
use Rattle.scan.proofs.places.field_at.Goals as goal

pub returns : goal.returns
returns c = field_by_parts c.requires c.of.ensures c.nth.ensures.ran
