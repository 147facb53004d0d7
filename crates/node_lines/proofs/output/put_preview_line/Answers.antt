-- `node_lines::output::put_preview_line` meets its contract: no segment, or the preview of its sequence. Assumes nothing.
use Rattle.gfa_spec.specs.Bytes.{bytes}
use Rattle.node_lines.proofs.Pieces.{preview_none, preview_some}
use Rattle.node_lines.proofs.output.put_preview_line.Goals as goal

pub returns-in_default : goal.returns-in_default
unfolding bytes
returns-in_default c = search preview_none

pub returns : goal.returns
unfolding bytes
returns c = search preview_some
