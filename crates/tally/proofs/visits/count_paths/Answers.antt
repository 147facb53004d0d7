use mathlib.Core.Path.{refl, ◌∙◌}
use borrow.Author.Rules.{rules}
use Rattle.tally.proofs.Countings.{same_none, same_then, path_in}
use Rattle.tally.proofs.Passing.{passing_start, passing_fits, passing_more, passing_end}
use Rattle.tally.proofs.visits.count_paths.Goals as goal

pub loop-p-init : goal.loop-p-init
loop-p-init c = (same_none, refl, passing_start c.requires.tabled c.requires.fresh.0 c.requires.fresh.1)

pub count_path-requires : goal.count_path-requires
count_path-requires c =
    let (s, m, r) = c.loop-p.invariant in
    let is = rw (s.text, s.bases, s.counts) at (path_in c.graph.ensures c.path-path.ensures) in
    rw (s.text, s.bases, s.counts, m) (record { countable = r.ready.countable; fits = (is.high, search rules, passing_fits r c.loop-p-test.true is) })

pub loop-p-preserved : goal.loop-p-preserved
loop-p-preserved c =
    let (s, m, r) = c.loop-p.invariant in
    let e = c.count_path.ensures in
    let is = rw (s.text, s.bases, s.counts) at (path_in c.graph.ensures c.path-path.ensures) in
    (same_then s e.same, e.none ∙ m, passing_more r c.loop-p-test.true is (rw (s.text, s.bases, s.counts, m) at e.counts))

pub returns : goal.returns
returns c = let (s, m, r) = c.loop-p.invariant in record { same = s; none = m; counts = passing_end r c.loop-p-test.false }
