-- `node_lines::output::put_node_row` meets its contract: thirteen lines in five pieces. Assumes nothing.
use Rattle.report_spec.specs.Lines.{node_lines}
use Rattle.node_lines.proofs.Pieces.{thirteen}
use Rattle.node_lines.proofs.output.put_node_row.Goals as goal

pub returns : goal.returns
unfolding node_lines
returns c =
    thirteen _ _ _ _ _ _ _ _ _ _ _ _ _
    c.put_names.ensures
    c.put_preview_line.ensures
    c.put_links.ensures
    c.put_counts.ensures
    c.put_path_line.ensures
