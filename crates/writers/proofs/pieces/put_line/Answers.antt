-- `writers::pieces::put_line` meets its contract: the string, and then the line feed.
use Rattle.gfa_spec.specs.Bytes.{end_line}
use Rattle.writers.proofs.Writing.{◌▷◌}
use Rattle.writers.proofs.pieces.put_line.Goals as goal

pub returns : goal.returns
unfolding end_line
returns c = c.put.ensures ▷ c.put_byte.ensures
