-- `rewrite::news::put_new_segments` writes the piece of each new segment. Assumes nothing.
use Rattle.normalize_tables.specs.News.{first_of}
use Rattle.writers.specs.Writers.{Puts, pieces_to}
use Rattle.rewrite.specs.Pieces.{new_piece}
use Rattle.rewrite.proofs.news.put_new_segments.Given as goal

abbrev pub invariant-loop-j : goal.invariant-loop-j
invariant-loop-j l = Puts l.initial.w (pieces_to (new_piece l.news.text.now l.news.work.now l.news.a.b l.news.a.g (first_of l.news.a.m.first)) l.j) l.w
