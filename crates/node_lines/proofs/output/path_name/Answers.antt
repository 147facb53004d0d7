-- `node_lines::output::path_name` meets its contract: no path, or the field of its line that holds its name. Assumes nothing.
use Rattle.node_lines.proofs.Pieces.{path_there, path_gone}
use Rattle.node_lines.proofs.output.path_name.Goals as goal

pub returns-in-Some-field_at : goal.returns-in-Some-field_at
returns-in-Some-field_at c = path_there _ _ _ _ c.in-Some.is c.path-path.ensures c.name_column.ensures c.field_at.ensures c.in-Some-field_at.is c.of.ensures

pub returns-in-None : goal.returns-in-None
returns-in-None c = path_gone _ _ _ _ c.in-Some.is c.path-path.ensures c.name_column.ensures c.field_at.ensures c.in-None.is
