use native.Mathlib.Omega.{arith}
use mathlib.Core.Path.{◌≡◌}
use Rattle.node_lines.proofs.Listing.{listed_row, listing_start, listing_more}
use Rattle.node_lines.proofs.output.put_nodes.Goals as goal

pub loop-i-init : goal.loop-i-init
loop-i-init c = listing_start _ _ _ _ _

pub put_node-requires : goal.put_node-requires
put_node-requires c = search listed_row

pub loop-i-preserved : goal.loop-i-preserved
loop-i-preserved c = listing_more _ _ _ _ _ _ c.loop-i.invariant c.word.ensures c.put_node.ensures

pub returns : goal.returns
returns c = let e : c.loop-i.i ≡ c.args.count = omega arith in rw e at c.loop-i.invariant
