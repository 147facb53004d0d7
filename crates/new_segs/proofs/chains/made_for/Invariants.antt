-- `new_segs::chains::made_for` meets its contract. The loop's invariant is the state of the search.
use Rattle.new_segs.proofs.Chaining.{Left}
use Rattle.new_segs.proofs.chains.made_for.Given as goal

abbrev pub invariant-loop-j : goal.invariant-loop-j
invariant-loop-j l = Left l.news.work.now l.news.a.n l.news.a.g l.news.a.m.segs l.fn.run.unit.0 l.fn.run.count l.j-iterator
