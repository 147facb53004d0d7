use Rattle.targets.proofs.Looking.{walking_start, walking_end, walking_ready, walking_more, looked_none, looked_hit}
use Rattle.targets.proofs.folded.any_folded.Goals as goal

pub loop-run-init : goal.loop-run-init
loop-run-init c =
    let o = c.graph-graph.ensures in
    let is = rw (o.text, o.work, o.bases, o.counts) at c.path-path.ensures in
    let runs = rw (o.text, o.work, o.bases) at c.of-run-items.ensures in
    (walking_start c.paths.invariant.0 (rw o.counts at c.paths-test.true) is runs c.into_iter-run-iterator.ensures.into_iter_gives, c.paths.invariant.1)

pub on_marked-requires : goal.on_marked-requires
on_marked-requires c =
    let o = c.graph-graph.ensures in
    rw (o.text, o.work, o.bases, o.counts) (walking_ready c.loop-run.invariant.0 c.in-Some.ensures.steps)

pub returns-then-on_marked : goal.returns-then-on_marked
returns-then-on_marked c =
    let o = c.graph-graph.ensures in
    looked_hit c.loop-run.invariant.0 c.in-Some.ensures.steps c.len.ensures.value (rw (o.text, o.work, o.bases, o.counts) at c.on_marked.ensures) c.if-on_marked.true

pub loop-run-preserved : goal.loop-run-preserved
loop-run-preserved c =
    let o = c.graph-graph.ensures in
    (walking_more c.loop-run.invariant.0 c.in-Some.ensures.steps c.len.ensures.value (rw (o.text, o.work, o.bases, o.counts) at c.on_marked.ensures) c.if-on_marked.false, c.loop-run.invariant.1)

pub paths-preserved : goal.paths-preserved
paths-preserved c = (walking_end c.loop-run.invariant.0 c.in-None.ensures.steps, c.loop-run.invariant.1)

pub returns-after-paths : goal.returns-after-paths
returns-after-paths c = let o = c.graph-graph.ensures in rw c.paths.invariant.1 (looked_none c.paths.invariant.0 (rw o.counts at c.paths-test.false))
