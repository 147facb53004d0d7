-- `tally::self_links::add_node` meets its contract: the row's words are those of the link and of the segment. Assumes nothing.
use native.Mathlib.Omega.{arith}
use mathlib.Core.Path.{refl}
use Rattle.nodes.proofs.Segments.{known_small}
use Rattle.tally.proofs.Countings.{known_in}
use Rattle.tally.proofs.Linking.{put_readable}
use Rattle.tally.proofs.self_links.add_node.Goals as goal

pub put_node-requires : goal.put_node-requires
put_node-requires c =
    let o = c.graph-graph.ensures in
    let r = c.args.nodes.now.readable in
    let known = known_in o c.segment_of-known.ensures in (
      rw (c.end-table.ensures, o.bases, o.counts) (omega (arith, r.laid.steps, c.requires.1)),
      record {
        start = omega (arith, c.requires.2, c.requires.0);
        size = omega (arith, c.requires.2, c.requires.0);
        number = omega (arith, known_small known, r.few);
        long = omega (arith, known.short, c.requires.0);
        links = omega arith;
        bits = omega (arith, c.marked.ensures);
      },
    )

pub invariant_of-nodes : goal.invariant_of-nodes
invariant_of-nodes c =
    let o = c.graph-graph.ensures in
    record { readable = put_readable c.args.nodes.now.readable (rw (o.bases, o.counts) at c.end-table.ensures) c.put_node.ensures }

pub returns : goal.returns
returns c =
    let o = c.graph-graph.ensures in
    let known = known_in o c.segment_of-known.ensures in
    record {
      same = record { text = refl; loan = refl; bases = refl; counts = refl };
      none = refl;
      adds = record { put = rw (known.number, known.long, c.marked.ensures.0, c.sign.ensures, c.sign-2.ensures, rw (o.bases, o.counts) at c.end-table.ensures) at c.put_node.ensures };
    }
