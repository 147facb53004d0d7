-- `nodes::nodes::marked` meets its contract, by the weight of the pair. Assumes nothing.
use native.Mathlib.Omega.{arith}
use mathlib.Core.Path.{sym, ◌∙◌}
use borrow.Author.Tests.{eq-eqb, ne_eqb}
use Rattle.nodes.specs.Table.{marked_of}
use Rattle.nodes.proofs.nodes.marked.Goals as goal

pub returns-then-w-eq0 : goal.returns-then-w-eq0
unfolding marked_of
returns-then-w-eq0 c = (rw (eq-eqb _ 0 (sym c.weight-w.ensures.0 ∙ c.if-w-eq0.true)), omega arith)

pub returns-then-bits-w-eq1 : goal.returns-then-bits-w-eq1
unfolding marked_of
returns-then-bits-w-eq1 c = (rw (← c.weight-w.ensures.0, ne_eqb _ 0 c.if-w-eq0.false, eq-eqb _ 1 c.if-bits-w-eq1.true), omega arith)

pub returns : goal.returns
unfolding marked_of
returns c = (rw (← c.weight-w.ensures.0, ne_eqb _ 0 c.if-w-eq0.false, ne_eqb _ 1 c.if-bits-w-eq1.false), omega arith)
