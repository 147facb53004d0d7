-- `nodes::counters::put_counter` meets its contract: the words are stored. Assumes nothing.
use Rattle.nodes.proofs.Stored.{put_counts}
use Rattle.nodes.proofs.counters.put_counter.Goals as goal

pub returns : goal.returns
returns c = put_counts c.requires.0 (rw (c.path_word.ensures, c.path_word-2.ensures) at c.put_row.ensures)
