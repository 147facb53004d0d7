use native.Mathlib.Omega.{arith}
use mathlib.Core.Path.{◌≡◌}
use Rattle.targets.proofs.Markers.{same_none, same_then, path_in}
use Rattle.targets.proofs.FoldedMarks.{visiting_start, visiting_more}
use Rattle.targets.proofs.folded.mark_paths.Goals as goal

pub loop-p-init : goal.loop-p-init
loop-p-init c = (same_none, visiting_start c.args.marks.now.markable)

pub loop-p-preserved : goal.loop-p-preserved
loop-p-preserved c =
    let s = c.loop-p.invariant.0 in
    let e = c.mark_path.ensures in
    let is = rw (s.text, s.bases, s.counts) at (path_in c.graph.ensures c.path-path.ensures) in
    (same_then s e.same, visiting_more c.loop-p.invariant.1 c.loop-p-test.true is (rw (s.text, s.bases, s.counts, s.base) at e.adds))

pub returns : goal.returns
returns c = let e : c.loop-p.p ≡ c.args.marks.now.n.paths = omega arith in record { same = c.loop-p.invariant.0; adds = rw e at c.loop-p.invariant.1.adds }
