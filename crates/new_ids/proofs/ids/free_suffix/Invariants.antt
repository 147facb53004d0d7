-- `new_ids::ids::free_suffix` meets its contract. The invariant: what was tried.
use Rattle.normalize_tables.specs.News.{first_of}
use Rattle.new_ids.specs.Ids.{Tried}
use Rattle.new_ids.proofs.ids.free_suffix.Given as goal

abbrev pub invariant-loop-suffix : goal.invariant-loop-suffix
invariant-loop-suffix l = Tried l.news.text.now l.news.work.now l.fn.news.a.b l.fn.news.a.n l.fn.news.a.g (first_of l.fn.news.a.m.first) l.fn.news.a.m.segs l.id l.fn.run.count l.suffix-iterator.start
