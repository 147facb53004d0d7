-- `targets::folded::mark_folded` meets its contract, by its three passes. Assumes nothing.
use mathlib.Core.Path.{refl}
use borrow.Author.Rules.{rules}
use Rattle.targets.proofs.Adding.{folded_cleared}
use Rattle.targets.proofs.FoldedMarks.{folded_given, folded_source}
use Rattle.targets.proofs.folded.mark_folded.Goals as goal

pub invariant_of-marks : goal.invariant_of-marks
invariant_of-marks c = record { markable = folded_cleared c.args.tables.now.source c.clear_words.ensures }

pub invariant_of-tables : goal.invariant_of-tables
invariant_of-tables c = record { source = folded_source c.args.tables.now.source c.clear_words.ensures c.mark_paths.ensures.adds c.keep_eligible.ensures (search rules) }

pub returns : goal.returns
returns c =
    record {
      same = record { text = refl; loan = refl; bases = refl; counts = refl; layout = refl };
      marked = folded_given c.args.tables.now.source c.clear_words.ensures c.mark_paths.ensures.adds c.keep_eligible.ensures (search rules);
    }
