use Rattle.relink.proofs.Adders.{same_none, same_then, path_in, adds_none}
use Rattle.relink.proofs.Adding.{passing_start, passing_room, passing_more, passing_end}
use Rattle.relink.proofs.pairs.add_paths.Goals as goal

pub loop-p-init : goal.loop-p-init
loop-p-init c = (same_none, rw (adds_none _) (passing_start c.args.adder.now.relinkable))

pub add_path-requires : goal.add_path-requires
add_path-requires c =
    let s = c.loop-p.invariant.0 in
    let q = c.loop-p.invariant.1 in
    let path = path_in c.graph.ensures c.new_path-steps.ensures in
    (path.high, rw s.area (passing_room q c.loop-p-test.true (rw s.area at path)))

pub loop-p-preserved : goal.loop-p-preserved
loop-p-preserved c =
    let s = c.loop-p.invariant.0 in
    let q = c.add_path.ensures in
    let path = rw s.area at (path_in c.graph.ensures c.new_path-steps.ensures) in
    (same_then s q.same, passing_more c.loop-p.invariant.1 c.loop-p-test.true path (rw (s.text, s.area) at q.adds))

pub returns : goal.returns
returns c =
    let s = c.loop-p.invariant.0 in
    record { same = record { text = s.text; loan = s.loan; area = s.area }; adds = passing_end c.loop-p.invariant.1 c.loop-p-test.false }
