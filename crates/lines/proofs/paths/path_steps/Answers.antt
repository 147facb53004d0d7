-- `lines::paths::path_steps` meets its contract. Assumes nothing.
use mathlib.Core.Path.{refl}
use borrow.Author.Rules.{rules}
use Rattle.lines.proofs.AddedPaths.{path_missing, steps_room, path_told}
use Rattle.lines.proofs.NewLines.{same_none, ready_steps}
use Rattle.lines.proofs.paths.path_steps.Goals as goal

pub returns-in_default : goal.returns-in_default
returns-in_default c = record { same = same_none; steps = path_missing c.field_at.ensures c.column.ensures c.in_default.is c.short_of.ensures }

pub invariant_of-f : goal.invariant_of-f
invariant_of-f c =
    record {
      inside = search rules;
      short = c.args.l.now.ready.short;
      room = steps_room c.field_at.ensures c.column.ensures c.in-Some.is c.requires c.args.l.now.ready c.step_place-base.ensures;
    }

pub invariant_of-l : goal.invariant_of-l
invariant_of-l c =
    record {
      ready =
          ready_steps c.args.l.now.ready
          (path_told c.field_at.ensures c.column.ensures c.in-Some.is c.requires c.args.l.now.ready c.step_place-base.ensures c.parse_steps.ensures.steps (search rules));
    }

pub returns : goal.returns
returns c =
    record {
      same = record { text = refl; loan = refl; bases = refl; counts = refl; line = refl };
      steps = path_told c.field_at.ensures c.column.ensures c.in-Some.is c.requires c.args.l.now.ready c.step_place-base.ensures c.parse_steps.ensures.steps (search rules);
    }
