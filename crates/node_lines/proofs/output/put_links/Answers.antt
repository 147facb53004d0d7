-- `node_lines::output::put_links` meets its contract: two lines. Assumes nothing.
use Rattle.gfa_spec.specs.Bytes.{bytes}
use Rattle.report_spec.specs.Lines.{line, number}
use Rattle.node_lines.proofs.Pieces.{two_lines}
use Rattle.node_lines.proofs.output.put_links.Goals as goal

pub returns : goal.returns
unfolding line number bytes
returns c = search two_lines
