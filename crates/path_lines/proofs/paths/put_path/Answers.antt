-- `path_lines::paths::put_path` meets its contract: the line up to the field of the steps, that field, and what stands behind it. Assumes nothing.
use borrow.Author.Rules.{rules}
use Rattle.gfa_spec.specs.Bytes.{part}
use Rattle.path_lines.proofs.PathLines.{path_missing, path_low, path_behind, path_end, path_column, path_put}
use Rattle.path_lines.proofs.paths.put_path.Goals as goal

pub returns-in_default : goal.returns-in_default
returns-in_default c = search path_missing

pub slice_bounds-put-count : goal.slice_bounds-put-count
slice_bounds-put-count c = search path_low

pub slice_bounds-put-start : goal.slice_bounds-put-start
slice_bounds-put-start c = search (rules, path_low)

pub put_rest-requires : goal.put_rest-requires
put_rest-requires c = (search rules, search path_behind, search path_end, search path_column)

pub returns : goal.returns
unfolding part
returns c = search path_put
