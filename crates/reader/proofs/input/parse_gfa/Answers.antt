-- `reader::input::parse_gfa` meets its contract. Assumes nothing.
use Rattle.reader.proofs.Admitting.{input_read}
use Rattle.reader.proofs.input.parse_gfa.Goals as goal

pub returns : goal.returns
returns c = input_read c.admit.ensures c.in_ok-admit.was c.read_text.ensures
