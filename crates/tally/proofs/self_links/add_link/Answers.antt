-- `tally::self_links::add_link` meets its contract: a link whose ends differ, a new node, or a node that is there. Assumes nothing.
use native.Mathlib.Omega.{arith}
use mathlib.Core.Path.{refl}
use Rattle.tally.proofs.Countings.{link_in, search_in, same_none}
use Rattle.tally.proofs.Linking.{few_more, room_left, names_inside, row_small, put_readable, linked_other, linked_new, linked_more}
use Rattle.tally.proofs.self_links.add_link.Goals as goal

pub returns-then-not-is_self_link : goal.returns-then-not-is_self_link
returns-then-not-is_self_link c =
    let o = c.graph-graph.ensures in
    record { same = same_none; adds = linked_other c.requires (link_in o c.link-l.ensures) (rw o.text at c.is_self_link.ensures) c.if-not-is_self_link.true }

pub find_row-requires : goal.find_row-requires
find_row-requires c =
    let o = c.graph-graph.ensures in
    rw (o.text, o.work) (names_inside c.requires (rw (o.bases, o.counts) at c.end-table.ensures), (link_in o c.link-l.ensures).from)

pub add_node-requires : goal.add_node-requires
add_node-requires c = (c.requires.short, room_left c.requires, (link_in c.graph-graph.ensures c.link-l.ensures).from)

pub overflow_add-nodes : goal.overflow_add-nodes
overflow_add-nodes c = omega (arith, few_more c.requires)

pub returns-in_default : goal.returns-in_default
returns-in_default c =
    let o = c.graph-graph.ensures in
    let a = c.add_node.ensures in
    record {
      same = record { text = a.same.text; loan = a.same.loan; bases = a.same.bases; counts = a.same.counts };
      adds = linked_new c.requires (link_in o c.link-l.ensures) (rw o.text at c.is_self_link.ensures) c.if-not-is_self_link.false (rw (o.bases, o.counts) at c.end-table.ensures) (search_in o c.find_row.ensures) c.in_default.is a.adds;
    }

pub count_link-requires : goal.count_link-requires
count_link-requires c =
    let o = c.graph-graph.ensures in
    row_small c.requires (rw (o.bases, o.counts) at c.end-table.ensures) (search_in o c.find_row.ensures) c.in-Some.is

pub invariant_of-nodes-2 : goal.invariant_of-nodes-2
invariant_of-nodes-2 c =
    let o = c.graph-graph.ensures in
    record { readable = put_readable c.args.nodes.now.readable (rw (o.bases, o.counts) at c.end-table.ensures) c.count_link.ensures }

pub returns : goal.returns
returns c =
    let o = c.graph-graph.ensures in
    record {
      same = record { text = refl; loan = refl; bases = refl; counts = refl };
      adds = linked_more c.requires (link_in o c.link-l.ensures) (rw o.text at c.is_self_link.ensures) c.if-not-is_self_link.false (rw (o.bases, o.counts) at c.end-table.ensures) (search_in o c.find_row.ensures) c.in-Some.is c.count_link.ensures;
    }
