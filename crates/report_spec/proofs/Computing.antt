-- For claims that are computed: to unfold `computing` is to unfold every definition of how a text is read and reported.
-- Assumes nothing.
use mathlib.Core.Bool.{Bool, true}
use Rattle.gfa_spec.proofs.Computing as gfa
use Rattle.report_spec.specs.Nodes
use Rattle.report_spec.specs.Order
use Rattle.report_spec.specs.Lines
use Rattle.report_spec.specs.Services

-- every definition of these modules, as one name
unfoldable pub computing : Bool
unfolding gfa.computing Nodes.each_once Nodes.nodes Nodes.links_on Nodes.order_of Nodes.orientations Nodes.on Nodes.visits Nodes.repeats Nodes.repeats_at Nodes.longest Nodes.path_name Nodes.first_with Nodes.total Nodes.node_of Order.goes_before Order.insert_node Order.sort_nodes Order.insert_len Order.lengths Lines.line Lines.number Lines.bucket_line Lines.node_lines Lines.report Services.report_entries Services.report_text
computing = true
