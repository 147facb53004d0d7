-- `spelling::spelling::bad_step` meets its contract. The loop's invariant: the first bad step is that of the paths from path i on. Assumes nothing.
use Rattle.spelling.proofs.Spelled.{Seeking}
use Rattle.spelling.proofs.spelling.bad_step.Given as goal

abbrev pub invariant-loop-i : goal.invariant-loop-i
invariant-loop-i l = Seeking l.graph.text.now l.graph.work.now l.graph.b l.graph.n l.i
