-- The IDs of the nodes of a graph: of the segments of its text, and of the new ones behind them.
use Rattle.std.specs.Prelude.{ℕ, List}
use Rattle.normalize_tables.specs.declared.news.News.{News}
use Rattle.normalize_tables.specs.declared.new_graph.NewGraph.{NewGraph}
use Rattle.normalize_tables.specs.News.{first_of, names_at}

-- with the new segments made so far
abbrev pub news_ids : News → List (List ℕ)
news_ids s = names_at s.text.now s.work.now s.a.b s.a.n s.a.g (first_of s.a.m.first) s.a.m.segs

-- where the paths are transformed
abbrev pub graph_ids : NewGraph → List (List ℕ)
graph_ids s = names_at s.text.now s.work.now s.a.b s.a.n s.a.g (first_of s.a.m.first) s.a.m.segs
