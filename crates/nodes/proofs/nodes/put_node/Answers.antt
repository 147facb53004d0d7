-- `nodes::nodes::put_node` meets its contract: the words are stored, and then the counters. Assumes nothing.
use Rattle.nodes.proofs.Stored.{put_words, put_again}
use Rattle.nodes.proofs.nodes.put_node.Goals as goal

pub returns : goal.returns
returns c =
    let pre = c.requires in
    let put-row = c.put_row in
    let put-counter = c.put_counter in
    put_again (put_words pre.0 (rw c.segment_word.ensures at put-row.ensures)) put-counter.ensures
