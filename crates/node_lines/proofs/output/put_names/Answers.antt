-- `node_lines::output::put_names` meets its contract: three lines, one after the other. Assumes nothing.
use Rattle.gfa_spec.specs.Bytes.{bytes}
use Rattle.node_lines.proofs.Pieces.{names_written}
use Rattle.node_lines.proofs.output.put_names.Goals as goal

pub returns : goal.returns
unfolding bytes
returns c = search names_written
