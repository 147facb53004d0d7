-- `report::summary::put_report` meets its contract: the totals, the buckets, and the first nodes. Assumes nothing.
use Rattle.report.proofs.Answering.{numbered, to_list, whole}
use Rattle.report.proofs.summary.put_report.Goals as goal

pub put_buckets-requires : goal.put_buckets-requires
put_buckets-requires c = numbered c.args.graph.now.readable c.requires c.areas_of-a.ensures

pub put_nodes-requires : goal.put_nodes-requires
put_nodes-requires c = to_list c.args.graph.now.readable c.requires c.areas_of-a.ensures _ c.min.ensures

pub returns : goal.returns
returns c = whole c.requires c.areas_of-a.ensures _ _ c.put_totals.ensures c.put_buckets.ensures c.min.ensures c.put_nodes.ensures
