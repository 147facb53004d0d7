-- `normalize::services::normalize_repeat_self_loops` meets its contract: the answer, demand 3 of it, and a work area that was cleared. Assumes nothing.
use Rattle.normalize.proofs.Demand.{normalized}
use Rattle.normalize.proofs.services.normalize_repeat_self_loops.Goals as goal

pub returns : goal.returns
returns c = search normalized
