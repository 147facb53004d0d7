-- `console::show` meets its contract. Assumes nothing.
use mathlib.Core.Path.{refl}
use Rattle.console.proofs.show.Goals as goal

pub returns-then-a-eq0 : goal.returns-then-a-eq0
returns-then-a-eq0 c = record { accepted = λ z. (refl, refl); refused = λ h. absurd (h c.if-a-eq0.true) }

pub returns : goal.returns
returns c = record { accepted = λ z. absurd (c.if-a-eq0.false z); refused = λ h. c.put_refusal.ensures }
