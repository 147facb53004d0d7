-- `path_lines::paths::put_rest` meets its contract, by the kind of the path. Assumes nothing.
use borrow.Author.Rules.{rules}
use Rattle.gfa_spec.specs.Bytes.{part}
use Rattle.path_lines.proofs.PathLines.{p_fields_many, rest_of_p, rest_of_w}
use Rattle.path_lines.proofs.paths.put_rest.Goals as goal

pub put_overlaps-requires : goal.put_overlaps-requires
put_overlaps-requires c = (search rules, search p_fields_many)

pub returns-in-P : goal.returns-in-P
unfolding part
returns-in-P c = search rest_of_p

pub returns-in-W : goal.returns-in-W
unfolding part
returns-in-W c = search rest_of_w
