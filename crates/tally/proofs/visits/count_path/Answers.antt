use mathlib.Core.Path.{refl, ◌∙◌}
use Rattle.tally.proofs.Countings.{same_none, same_then}
use Rattle.tally.proofs.Passing.{running_start, running_more, running_end}
use Rattle.tally.proofs.visits.count_path.Goals as goal

pub loop-i-init : goal.loop-i-init
loop-i-init c =
    let f = c.requires.fits in
    (same_none, refl, running_start (record { readable = c.args.nodes.now.readable; countable = c.requires.countable }) c.args.steps.ordered f.0 f.1 f.2)

pub count_next-i-requires : goal.count_next-i-requires
count_next-i-requires c =
    let (s, m, r) = c.loop-i.invariant in
    rw (s.text, s.bases, s.counts, m) (record { countable = r.ready.countable; fits = (c.loop-i-test.true, r.last, r.small, r.fit) })

pub loop-i-preserved : goal.loop-i-preserved
loop-i-preserved c =
    let (s, m, r) = c.loop-i.invariant in
    let e = c.count_next-i.ensures in
    (same_then s e.same, e.none ∙ m, running_more r (rw (s.text, s.bases, s.counts, m) at e.counts))

pub returns : goal.returns
returns c = let (s, m, r) = c.loop-i.invariant in record { same = s; none = m; counts = running_end r c.loop-i-test.false }
