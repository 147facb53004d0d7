-- `normalize_answers::folding::fold_text` meets its contract: a bad step, or the rewritten text. Assumes nothing.
use Rattle.std.proofs.lemmas.Result.{err_from_is_err_and}
use Rattle.normalize_tables.proofs.Normalizers.{same_none, same_then}
use Rattle.normalize_answers.proofs.Steering.{fold_bad, fold_good, steps_known, marks_set}
use Rattle.normalize_answers.proofs.folding.fold_text.Goals as goal

pub returns-in_err-bad_step : goal.returns-in_err-bad_step
returns-in_err-bad_step c =
    let p = err_from_is_err_and c.from_residual.result c.from_residual.ensures.1 in
    let o = c.graph.ensures in
    record {
      same = same_none;
      folded = rw (p.1, p.2) (fold_bad (rw (o.text, o.work, o.bases, o.counts) at c.bad_step.ensures) c.in_err-bad_step.was);
    }

pub rewrite_text-requires : goal.rewrite_text-requires
rewrite_text-requires c =
    let o = c.graph.ensures in
    let f = c.mark_folded-nodes.ensures in
    let s = f.same in
    let known = steps_known c.args.tables.now.source c.requires.tied (rw (o.text, o.work, o.bases, o.counts) at c.bad_step.ensures) c.in_ok-bad_step.was f.marked in
    record { known = rw (s.text, s.bases, s.counts) known; marks = rw (s.text, s.bases, s.counts, s.layout) (marks_set c.requires.marks f.marked) }

pub returns : goal.returns
returns c =
    let o = c.graph.ensures in
    let f = c.mark_folded-nodes.ensures in
    let s = f.same in
    let e = c.rewrite_text.ensures in
    record {
      same = same_then s e.same;
      folded = fold_good _ c.args.tables.now.source (rw (o.text, o.work, o.bases, o.counts) at c.bad_step.ensures) c.in_ok-bad_step.was f.marked (rw (s.text, s.bases, s.counts, s.layout) at e.rewritten);
    }
