-- `targets::eligible::mark_eligible` meets its contract, by its three passes. Assumes nothing.
use mathlib.Core.Path.{refl}
use borrow.Author.Rules.{rules}
use Rattle.targets.proofs.Adding.{eligible_cleared}
use Rattle.targets.proofs.EligibleMarks.{eligible_marked, eligible_source}
use Rattle.targets.proofs.eligible.mark_eligible.Goals as goal

pub invariant_of-marks : goal.invariant_of-marks
invariant_of-marks c = record { markable = eligible_cleared c.args.tables.now.source c.clear_words.ensures }

pub invariant_of-tables : goal.invariant_of-tables
invariant_of-tables c =
    let e = c.mark_self_links.ensures in
    let s = e.same in
    record { source = eligible_source c.args.tables.now.source c.clear_words.ensures e.adds (rw (s.text, s.bases, s.counts, s.base) at c.keep_units.ensures.kept) (search rules) }

pub returns : goal.returns
returns c =
    let e = c.mark_self_links.ensures in
    let s = e.same in
    record {
      same = record { text = refl; loan = refl; bases = refl; counts = refl; layout = refl };
      marked = eligible_marked c.args.tables.now.source c.clear_words.ensures e.adds (rw (s.text, s.bases, s.counts, s.base) at c.keep_units.ensures.kept) (search rules);
    }
