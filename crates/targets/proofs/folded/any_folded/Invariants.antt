-- `targets::folded::any_folded` meets its contract. The invariants of its two loops are the states at a path and at its runs that are left. Assumes nothing.
use mathlib.Core.Bool.{false}
use mathlib.Core.Path.{◌≡◌}
use Rattle.targets.proofs.Looking.{Looking, Walking}
use Rattle.targets.proofs.folded.any_folded.Given as goal

abbrev pub invariant-paths : goal.invariant-paths
invariant-paths l = Looking l.tables.text.now l.tables.work.now l.tables.b l.tables.n l.tables.g.eligible l.p × (l.found ≡ false)

abbrev pub invariant-loop-run : goal.invariant-loop-run
invariant-loop-run l = Walking l.tables.text.now l.tables.work.now l.tables.b l.tables.n l.tables.g.eligible l.p l.run-iterator × (l.found ≡ false)
