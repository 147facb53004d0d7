-- `new_ids::ids::find_new` meets its contract. The loop's invariant is the state of the search.
use Rattle.normalize_tables.specs.News.{first_of}
use Rattle.new_ids.proofs.Finding.{Seeking}
use Rattle.new_ids.proofs.ids.find_new.Given as goal

abbrev pub invariant-loop-j : goal.invariant-loop-j
invariant-loop-j l = Seeking l.news.text.now l.news.work.now l.news.a.b l.news.a.n l.news.a.g (first_of l.news.a.m.first) l.news.a.m.segs l.name l.j
