-- The fields that hold steps and orientations. Assumes nothing.
use Rattle.std.specs.Prelude.{Result, Ok}
use Rattle.refusals.specs.declared.reason.Reason.{Reason}
use Prim.Native.Nat.{ℕ, suc}
use native.Mathlib.Omega.{arith}
use mathlib.Core.Bool.{Bool, true, false, cond}
use mathlib.Core.List.{List, []}
use mathlib.Core.Path.{◌≡◌, refl, sym, ◌∙◌}
use lib.Dec.{ltb}
use lib.ListN.{length}
use borrow.Author.Tests.{lt-ltb, le-ltb}
use Rattle.gfa_spec.specs.Bytes.{Part, part, same, star, is_empty, split, nth}
use Rattle.gfa_spec.specs.Reading.{Kind, P, W, Step, path, Read, refused, accepted, then, fields, nowhere, parse_items, parse_psteps, parse_wsteps, parse_p, parse_w, non_empty, walk}
use Rattle.scan.specs.Places.{part_at, bytes_in, FoundAt, FewFields}
use Rattle.work.specs.Rows.{rows_at}
use Rattle.tables.specs.Steps.{steps_at}
use Rattle.steps.specs.declared.step_field.StepField.{StepField}
use Rattle.steps.specs.FieldSteps.{PutsSteps}
use Rattle.steps.proofs.FieldSteps.{same_none}
use Rattle.tables.specs.declared.kinds.PathKind.{PathKind}
use Rattle.tables.specs.declared.kinds.PathKind.TheVariants as kinds
use Rattle.tables.specs.Paths.{kind_in, column_of, short_of, steps_of, parse_path, path_fields}
use Rattle.gfa_spec.proofs.Parts.{length_part}
use Rattle.scan.proofs.LineEnds as ends
use Rattle.work.proofs.Rows.{only_none, each_none}

-- ---- the steps of a P or W line

-- no steps
none_put : {f : StepField} {r : Read (List Step)} → r ≡ accepted [] → PutsSteps f r (Ok 0) f
unfolding steps_at rows_at
none_put e = record { same = same_none; steps = record { says = record { read = e; few = omega arith; rows = each_none; long = refl; only = only_none } } }

module _ {f g : StepField} {c : Result ℕ Reason} where
  -- the same steps, read otherwise
  puts_as : {r s : Read (List Step)} → s ≡ r → PutsSteps f r c g → PutsSteps f s c g
  puts_as e h = record { same = h.same; steps = rw e h.steps }

module _ {f : StepField} {t : Bool} (i : t ≡ same (bytes_in f.text.now f.field) star) where
  pub p_star : t ≡ true → PutsSteps f (parse_psteps (part_at f.text.now f.field.start f.field.size)) (Ok 0) f
  unfolding parse_psteps part_at
  p_star e = none_put (rw (sym i ∙ e))

  pub w_star : t ≡ true → PutsSteps f (parse_wsteps (part_at f.text.now f.field.start f.field.size)) (Ok 0) f
  unfolding parse_wsteps part_at
  w_star e = none_put (rw (sym i ∙ e))

  pub w_none : t ≡ false → f.field.size ≡ 0 → PutsSteps f (parse_wsteps (part_at f.text.now f.field.start f.field.size)) (Ok 0) f
  unfolding parse_wsteps part_at part is_empty same star
  w_none n e = none_put (rw e)

  module _ {g : StepField} {c : Result ℕ Reason} where
    pub p_items : t ≡ false → PutsSteps f (parse_items (split 44 f.field.start (part f.field.start f.field.size f.text.now))) c g
        → PutsSteps f (parse_psteps (part_at f.text.now f.field.start f.field.size)) c g
    unfolding parse_psteps part_at
    p_items e h = puts_as (rw (sym i ∙ e)) h

    pub w_walk : t ≡ false → (f.field.size ≡ 0 → ⊥) → PutsSteps f (non_empty (walk f.field.start (part f.field.start f.field.size f.text.now)).steps) c g
        → PutsSteps f (parse_wsteps (part_at f.text.now f.field.start f.field.size)) c g
    unfolding parse_wsteps part_at
    w_walk e n h =
        let b = part f.field.start f.field.size f.text.now in
        puts_as (rw (sym i ∙ e, ends.non_empty b (omega (arith, n, length_part f.field.start f.field.size f.text.now f.inside)))) h

-- by the kind
module _ {f g : StepField} {kind : PathKind} {c : Result ℕ Reason} where
  pub of_p_line : kind ≡ kinds.P → PutsSteps f (parse_psteps (part_at f.text.now f.field.start f.field.size)) c g
      → PutsSteps f (steps_of (kind_in kind) (part_at f.text.now f.field.start f.field.size)) c g
  unfolding steps_of
  of_p_line k h = rw k h

  pub of_w_line : kind ≡ kinds.W → PutsSteps f (parse_wsteps (part_at f.text.now f.field.start f.field.size)) c g
      → PutsSteps f (steps_of (kind_in kind) (part_at f.text.now f.field.start f.field.size)) c g
  unfolding steps_of
  of_w_line k h = rw k h

-- what the reading of a field goes on by
pub ruleset of_p = (p_star, p_items)

pub ruleset of_w = (w_star, w_none, w_walk)

pub ruleset by_kind = (of_p_line, of_w_line)

-- ---- the line

-- how a P and a W line are read: by the field that holds the steps
path_read : (k : Kind) (fs : List Part) →
    parse_path k fs ≡
    cond (ltb (length fs) (suc (column_of k))) (refused (short_of k))
    (then (steps_of k (nth (column_of k) fs nowhere)) (λ ss. accepted (path (record { kind = k; fields = path_fields k fs; steps = ss }))))
unfolding parse_path parse_p parse_w column_of short_of steps_of path_fields
path_read P fs = refl
path_read W fs = refl

module _ (k : Kind) {text : List ℕ} {start size : ℕ} where
  pub path_short : FewFields text start size (column_of k) → parse_path k (fields (part_at text start size)) ≡ refused (short_of k)
  path_short f = path_read k (fields (part_at text start size)) ∙ rw (lt-ltb (length (fields (part_at text start size))) (suc (column_of k)) (omega (arith, f.few)))

  module _ {at long : ℕ} (f : FoundAt text start size (column_of k) at long) where
    path_then : parse_path k (fields (part_at text start size)) ≡
        then (steps_of k (part_at text at long)) (λ ss. accepted (path (record { kind = k; fields = path_fields k (fields (part_at text start size)); steps = ss })))
    path_then = path_read k (fields (part_at text start size)) ∙ rw (le-ltb (length (fields (part_at text start size))) (suc (column_of k)) (omega (arith, f.more)), f.field)

    pub path_refused : {j : ℕ} → steps_of k (part_at text at long) ≡ refused j → parse_path k (fields (part_at text start size)) ≡ refused j
    unfolding then
    path_refused e = path_then ∙ rw e

    pub path_accepted : (ss : List Step) → steps_of k (part_at text at long) ≡ accepted ss →
        parse_path k (fields (part_at text start size)) ≡ accepted (path (record { kind = k; fields = path_fields k (fields (part_at text start size)); steps = ss }))
    unfolding then
    path_accepted ss e = path_then ∙ rw e
