-- `nodes::nodes::count_link` meets its contract: the two words are read, and stored anew. Assumes nothing.
use native.Mathlib.Omega.{arith}
use Rattle.nodes.proofs.Stored.{put_links}
use Rattle.nodes.proofs.nodes.count_link.Goals as goal

pub overflow_add-pair : goal.overflow_add-pair
overflow_add-pair c = rw c.node_at-w.ensures.is (omega arith)

pub marked-requires : goal.marked-requires
marked-requires c = rw c.node_at-w.ensures.is (omega arith)

pub put_row-requires : goal.put_row-requires
put_row-requires c = (omega arith, (rw c.node_at-w.ensures.is (omega arith), (omega arith, tt)))

pub returns : goal.returns
returns c =
    let pre = c.requires in
    let marked = c.marked in
    let node_at = c.node_at-w in
    let put-row = c.put_row in
    put_links pre.0 (rw (marked.ensures.0, node_at.ensures.is, c.sign.ensures, c.sign-2.ensures) at put-row.ensures)
