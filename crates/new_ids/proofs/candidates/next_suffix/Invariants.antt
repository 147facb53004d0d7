-- `new_ids::candidates::next_suffix` meets its contract. The loop's invariant is the state of the search.
use Rattle.normalize_tables.specs.News.{first_of}
use Rattle.new_ids.proofs.Kin.{Backwards}
use Rattle.new_ids.proofs.candidates.next_suffix.Given as goal

abbrev pub invariant-loop-j : goal.invariant-loop-j
invariant-loop-j l = Backwards l.news.text.now l.news.work.now l.news.a.b l.news.a.g (first_of l.news.a.m.first) l.news.a.m.segs l.unit l.count l.j
