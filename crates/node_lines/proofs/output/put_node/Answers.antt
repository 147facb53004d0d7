-- `node_lines::output::put_node` meets its contract: its row is read, and written. Assumes nothing.
use Rattle.node_lines.proofs.Pieces.{row_ready, node_written}
use Rattle.node_lines.proofs.output.put_node.Goals as goal

pub put_node_row-requires : goal.put_node_row-requires
put_node_row-requires c = search row_ready

pub returns : goal.returns
returns c = search node_written
