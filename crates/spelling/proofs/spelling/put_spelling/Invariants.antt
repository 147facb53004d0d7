-- `spelling::spelling::put_spelling` meets its contract. The loop's invariant: the steps before step i are put, and all steps spell that and then the rest. Assumes nothing.
use Rattle.spelling.proofs.Spelled.{SoFar}
use Rattle.spelling.proofs.spelling.put_spelling.Given as goal

abbrev pub invariant-loop-i : goal.invariant-loop-i
invariant-loop-i l = SoFar l.initial.w l.graph.text.now l.graph.work.now l.graph.b l.graph.n l.fn.steps.first l.fn.steps.end l.w l.i
