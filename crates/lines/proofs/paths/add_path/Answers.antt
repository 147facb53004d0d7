-- `lines::paths::add_path` meets its contract. Assumes nothing.
use Prim.Native.Nat.{◌+◌}
use native.Mathlib.Omega.{arith}
use Rattle.std.proofs.lemmas.Result.{err_from_is_err_and}
use Rattle.tables.specs.declared.rows.PathWords.{PathWords}
use Rattle.lines.proofs.AddedPaths.{p_refused, p_added}
use Rattle.lines.proofs.NewLines.{ready_path}
use Rattle.lines.proofs.paths.add_path.Goals as goal

pub returns-in_err-count : goal.returns-in_err-count
returns-in_err-count c =
    let p = err_from_is_err_and c.from_residual.result c.from_residual.ensures.1 in
    let e = c.path_steps.ensures in
    rw (p.1, p.2) (record { same = e.same; added = p_refused e.steps c.requires c.in_err-count.was })

pub invariant_of-l : goal.invariant_of-l
invariant_of-l c =
    let l = c.path_steps.new.l in
    let row : PathWords = record { kind = c.args.kind; line = l.line; steps = record { first = l.n.steps; end = l.n.steps + c.in_ok-count.count; ordered = omega arith } } in
    record { ready = ready_path l.ready row c.put_path.ensures }

pub returns : goal.returns
returns c =
    let e = c.path_steps.ensures in
    let s = e.same in
    record {
      same = record { text = s.text; loan = s.loan; bases = s.bases; counts = s.counts; line = s.line };
      added = rw s.counts (p_added e.steps c.requires c.in_ok-count.was c.args.l.now.ready (rw (s.bases, s.counts, s.line) at c.put_path.ensures) (rw s.counts at c.one_more.ensures));
    }
