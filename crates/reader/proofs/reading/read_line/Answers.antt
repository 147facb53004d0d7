-- `reader::reading::read_line` meets its contract. Assumes nothing.
use Rattle.lines.proofs.Entering.{line_entered}
use Rattle.lines.proofs.NewLines.{ready_entry}
use Rattle.reader.proofs.reading.read_line.Goals as goal

pub invariant_of-l : goal.invariant_of-l
invariant_of-l c = record { ready = ready_entry c.add_record.new.l.ready c.in_ok-record.record c.put_line.ensures }

pub returns : goal.returns
returns c =
    let e = c.add_record.ensures in
    let s = e.same in
    record {
      same = record { text = s.text; loan = s.loan; bases = s.bases; counts = s.counts; line = s.line };
      read = line_entered c.args.l.now.ready e.added c.in_ok-record.was (rw (s.bases, s.counts) at c.put_line.ensures);
    }
