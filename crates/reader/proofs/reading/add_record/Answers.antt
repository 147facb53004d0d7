-- `reader::reading::add_record` meets its contract. Assumes nothing.
use Rattle.lines.proofs.Adding.{raw_blank, raw_comment, raw_header, raw_other}
use Rattle.lines.proofs.NewLines.{same_none}
use Rattle.reader.proofs.reading.add_record.Goals as goal

pub returns-in-Blank : goal.returns-in-Blank
returns-in-Blank c = record { same = same_none; added = raw_blank c.args.l.now.ready c.sort_of.ensures c.one_more-more.ensures c.in-Blank.is }

pub returns-in-Comment : goal.returns-in-Comment
returns-in-Comment c = record { same = same_none; added = raw_comment c.args.l.now.ready c.sort_of.ensures c.one_more-more.ensures c.in-Comment.is }

pub returns-in-Header : goal.returns-in-Header
returns-in-Header c = record { same = same_none; added = raw_header c.args.l.now.ready c.sort_of.ensures c.one_more-more.ensures c.in-Header.is }

pub returns-in-Other : goal.returns-in-Other
returns-in-Other c = record { same = same_none; added = raw_other c.args.l.now.ready c.sort_of.ensures c.one_more-more.ensures c.in-Other.is }
