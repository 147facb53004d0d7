-- `report::totals::rank_nodes` meets its contract: the nodes are found, counted, and ordered twice. Assumes nothing.
use mathlib.Core.Path.{refl}
use borrow.Author.Rules.{rules}
use Rattle.report.proofs.Ordering.{nodes_tabled, nodes_countable, orderable, ranked}
use Rattle.report.proofs.totals.rank_nodes.Goals as goal

pub find_nodes-requires : goal.find_nodes-requires
find_nodes-requires c = c.requires.short

pub count_paths-requires : goal.count_paths-requires
count_paths-requires c =
    let s = c.find_nodes.ensures.same in
    let a = c.find_nodes.ensures.finds in
    rw (s.text, s.bases, s.counts) (record { tabled = nodes_tabled a c.requires; fresh = (nodes_countable a c.requires, a.fresh) })

pub order_both-requires : goal.order_both-requires
order_both-requires c =
    let f = c.find_nodes.ensures in
    let p = c.count_paths.ensures in
    rw p.none (orderable c.requires f.finds (rw (f.same.text, f.same.bases, f.same.counts) at p.counts) c.areas_of-a.ensures (search rules))

pub returns : goal.returns
returns c =
    let f = c.find_nodes.ensures in
    let p = c.count_paths.ensures in
    rw p.none (ranked c.requires f.finds (rw (f.same.text, f.same.bases, f.same.counts) at p.counts) c.areas_of-a.ensures (search rules) (rw p.none at c.order_both.ensures))
