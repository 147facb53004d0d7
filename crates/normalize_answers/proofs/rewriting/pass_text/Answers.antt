-- `normalize_answers::rewriting::pass_text` meets its contract: rules 4 to 6, one after the other. Assumes nothing.
use Rattle.normalize_answers.proofs.Rewrites.{links_ready, settled_writable, passed_given}
use Rattle.normalize_answers.proofs.rewriting.pass_text.Goals as goal

pub settle_links-l-requires : goal.settle_links-l-requires
settle_links-l-requires c = links_ready c.transform-m.ensures c.requires.marks

pub invariant_of-tables : goal.invariant_of-tables
invariant_of-tables c = record { source = (settled_writable (links_ready c.transform-m.ensures c.requires.marks) c.settle_links-l.ensures).source }

pub returns : goal.returns
returns c =
    let t = c.transform-m.ensures in
    record {
      same = record { text = t.same.text; loan = t.same.loan; bases = t.same.bases; counts = t.same.counts; layout = t.same.layout };
      passed = passed_given t c.requires.marks c.new_pairs-pairs.ensures c.settle_links-l.ensures;
    }
