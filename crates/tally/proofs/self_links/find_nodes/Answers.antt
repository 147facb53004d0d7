use Rattle.tally.proofs.Countings.{same_none, same_then}
use Rattle.tally.proofs.Linking.{linking_start, linking_ready, linking_more, linking_end}
use Rattle.tally.proofs.self_links.find_nodes.Goals as goal

pub loop-i-init : goal.loop-i-init
loop-i-init c = (same_none, linking_start c.args.nodes.now.readable c.requires)

pub add_link-requires : goal.add_link-requires
add_link-requires c =
    let s = c.loop-i.invariant.0 in
    rw (s.text, s.bases, s.counts) (linking_ready c.loop-i.invariant.1 c.loop-i-test.true)

pub loop-i-preserved : goal.loop-i-preserved
loop-i-preserved c =
    let s = c.loop-i.invariant.0 in
    let e = c.add_link.ensures in
    (same_then s e.same, linking_more c.loop-i.invariant.1 c.loop-i-test.true (rw (s.text, s.bases, s.counts) at e.adds))

pub returns : goal.returns
returns c =
    let s = c.loop-i.invariant.0 in
    record { same = record { text = s.text; loan = s.loan; bases = s.bases; counts = s.counts }; finds = linking_end c.loop-i.invariant.1 c.loop-i-test.false }
