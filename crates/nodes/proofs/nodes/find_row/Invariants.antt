-- `nodes::nodes::find_row` meets its contract. The loop's invariant is the search's state. Assumes nothing.
use Rattle.nodes.proofs.Finding.{Searching}
use Rattle.nodes.proofs.nodes.find_row.Given as goal

abbrev pub invariant-loop-i : goal.invariant-loop-i
invariant-loop-i l = Searching l.text l.work l.table l.count l.name l.i
