-- `scan::names::is_star` meets its contract: `*` is one byte. Assumes nothing.
use Rattle.gfa_spec.specs.Bytes.{star}
use Rattle.scan.proofs.names.is_star.Goals as goal

pub returns : goal.returns
unfolding star
returns c = c.same_bytes.ensures
