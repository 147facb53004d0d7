-- `nodes::nodes::weight` meets its contract, by the two orientations. Assumes nothing.
use native.Mathlib.Omega.{arith}
use borrow.Author.Tests.{ne_eqb}
use mathlib.Core.Path.{sym}
use Rattle.scan.proofs.Orientations.{reverse_sign}
use Rattle.nodes.specs.Table.{weight_of}
use Rattle.nodes.proofs.nodes.weight.Goals as goal

pub returns-then-to-eq43 : goal.returns-then-to-eq43
unfolding weight_of
returns-then-to-eq43 c = (rw (c.if-from-eq43.true, c.if-to-eq43.true), omega arith, λ s t. omega arith)

pub returns-then-to-eq45 : goal.returns-then-to-eq45
unfolding weight_of
returns-then-to-eq45 c = (rw (c.if-from-eq43.true, c.if-to-eq45.true), omega arith, λ s t. omega arith)

pub returns-then-from-eq43 : goal.returns-then-from-eq43
unfolding weight_of
returns-then-from-eq43 c = (rw (c.if-from-eq43.true, ne_eqb _ 43 c.if-to-eq43.false, ne_eqb _ 45 c.if-to-eq45.false), omega arith, λ s t. absurd (c.if-to-eq45.false (sym (reverse_sign t c.if-to-eq43.false))))

pub returns-then-to-eq43-2 : goal.returns-then-to-eq43-2
unfolding weight_of
returns-then-to-eq43-2 c = (rw (c.if-from-eq45.true, c.if-to-eq43-2.true), omega arith, λ s t. omega arith)

pub returns-then-to-eq45-2 : goal.returns-then-to-eq45-2
unfolding weight_of
returns-then-to-eq45-2 c = (rw (c.if-from-eq45.true, c.if-to-eq45-2.true), omega arith, λ s t. omega arith)

pub returns-else-to-eq45-2 : goal.returns-else-to-eq45-2
unfolding weight_of
returns-else-to-eq45-2 c = (rw (c.if-from-eq45.true, ne_eqb _ 43 c.if-to-eq43-2.false, ne_eqb _ 45 c.if-to-eq45-2.false), omega arith, λ s t. absurd (c.if-to-eq45-2.false (sym (reverse_sign t c.if-to-eq43-2.false))))

pub returns-else-from-eq45 : goal.returns-else-from-eq45
unfolding weight_of
returns-else-from-eq45 c = (rw (ne_eqb _ 43 c.if-from-eq43.false, ne_eqb _ 45 c.if-from-eq45.false), omega arith, λ s t. absurd (c.if-from-eq45.false (sym (reverse_sign s c.if-from-eq43.false))))
