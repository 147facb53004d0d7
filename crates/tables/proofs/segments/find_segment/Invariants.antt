-- `tables::segments::find_segment` meets its contract. The loop's invariant is the state of the search.
use Rattle.scan.specs.Places.{bytes_in}
use Rattle.tables.proofs.Finding.{Finding}
use Rattle.tables.proofs.segments.find_segment.Given as goal

abbrev pub invariant-loop-k : goal.invariant-loop-k
invariant-loop-k l = Finding l.text l.work l.b l.count (bytes_in l.text l.name) l.k-iterator
