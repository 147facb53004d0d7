-- `scan::numbers::value_of` meets its contract. The invariant: what all digits read as is what the rest reads as after the value so far.
use Rattle.scan.proofs.Numerals.{Scanned}
use Rattle.scan.proofs.numbers.value_of.Given as goal

abbrev pub invariant-loop-b : goal.invariant-loop-b
invariant-loop-b l = Scanned l.digits l.value l.b-index
