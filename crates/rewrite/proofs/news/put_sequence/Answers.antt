-- `rewrite::news::put_sequence` meets its contract, by the words of the unit. Assumes nothing.
use Rattle.normalize_tables.specs.News.{first_of}
use Rattle.rewrite.proofs.NewLines.{sequence_put}
use Rattle.rewrite.proofs.news.put_sequence.Goals as goal

pub returns : goal.returns
returns c =
    let news = c.args.news.now in
    sequence_put news.text.now news.work.now news.a.b news.a.g (first_of news.a.m.first) c.args.j
    c.new_segment-new.ensures c.segment-unit.ensures c.of.ensures c.put_byte.ensures c.put_repeated.ensures
