-- `tables::segments::has_name` meets its contract. Assumes nothing.
use Rattle.tables.proofs.NamesSlotted.{id_is}
use Rattle.tables.proofs.segments.has_name.Goals as goal

pub returns : goal.returns
returns c = rw (id_is c.args.text.now c.args.work.now c.args.b c.args.k c.place_at-id.ensures) c.same_name.ensures
