-- `new_ids::candidates::is_taken` meets its contract. The loop's invariant is the state of the search.
use Rattle.tables.proofs.Finding.{Finding}
use Rattle.normalize_spec.specs.NewNames.{new_name}
use Rattle.new_ids.proofs.candidates.is_taken.Given as goal

abbrev pub invariant-loop-k : goal.invariant-loop-k
invariant-loop-k l = Finding l.graph.text.now l.graph.work.now l.graph.b l.graph.n.segs (new_name l.unit l.count l.suffix) l.k-iterator
