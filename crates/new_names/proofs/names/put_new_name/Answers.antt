-- `new_names::names::put_new_name` meets its contract: the unit's name, and what stands behind it.
use mathlib.Core.Path.{sym}
use Rattle.normalize_spec.proofs.NewNames.{name_parts}
use Rattle.writers.proofs.Writing.{as_piece, ◌▷◌}
use Rattle.new_names.proofs.names.put_new_name.Goals as goal

pub returns : goal.returns
returns c = as_piece (sym (name_parts _ _ _)) (c.put_sanitized.ensures ▷ c.put_tail.ensures)
