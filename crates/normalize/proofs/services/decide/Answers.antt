-- `normalize::services::decide` meets its contract: rules 1 and 2, one after the other. Assumes nothing.
use borrow.Author.Rules.{rules}
use Rattle.normalize.proofs.Deciding.{decided}
use Rattle.normalize.proofs.services.decide.Goals as goal

pub returns : goal.returns
returns c =
    let e = c.mark_eligible.ensures in
    let s = e.same in
    decided c.requires c.layout_of-g.ensures e.marked c.input_stats-stats.ensures (rw (s.text, s.bases, s.counts, s.layout) at c.any_folded.ensures) c.then_some-folds.ensures (search rules)
