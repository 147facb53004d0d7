-- `path_lines::paths::put_overlaps` meets its contract: the line has overlaps, or gets them. Assumes nothing.
use Rattle.path_lines.proofs.PathLines.{overlaps_missing, overlaps_there}
use Rattle.path_lines.proofs.paths.put_overlaps.Goals as goal

pub returns-in-Some : goal.returns-in-Some
returns-in-Some c = search overlaps_there

pub returns-in-None : goal.returns-in-None
returns-in-None c = search overlaps_missing
