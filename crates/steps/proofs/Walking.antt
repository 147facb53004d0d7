-- The steps of a W line, one at a time: the state, and how it goes on. Assumes nothing.
use Rattle.std.specs.Prelude.{Ok, Err, None, Some}
use Rattle.refusals.specs.declared.reason.Reason.{Reason}
use Rattle.refusals.specs.declared.reason.Reason.TheVariants.{EmptyStep, NoStep, EmptyLastStep}
use Rattle.refusals.specs.Reasons.{number_of}
use Rattle.scan.specs.Orientations.{sign_of}
use Rattle.scan.proofs.Orientations.{sign_is, sign_small}
use Prim.Native.Nat.{ℕ, zero, suc, ◌+◌, ◌*◌, ◌≤◌, ◌<◌}
use native.Mathlib.Nat.{mul-suc}
use native.Mathlib.Numerals.{add-one}
use native.Mathlib.Omega.{arith}
use mathlib.Core.Bool.{true, false}
use mathlib.Core.List.{List, [], ◌∷◌, ◌++◌, append-nil}
use mathlib.Core.Logic.{inl}
use mathlib.Core.Path.{◌≡◌, refl, ap, ◌∙◌}
use lib.ListN.{length}
use lib.Seq.{sets, length-sets}
use Rattle.gfa_spec.specs.Bytes.{part, is_empty}
use Rattle.gfa_spec.specs.Reading.{Step, Read, refused, accepted, then, walk, non_empty}
use Rattle.scan.specs.Places.{part_at}
use Rattle.tables.specs.declared.rows.StepWords.{StepWords}
use Rattle.tables.specs.ByNumber.{step_of, step_words}
use Rattle.steps.specs.declared.walks.Walk.{Walk}
use Rattle.steps.specs.WalkSteps.{steps_left, AllSteps, StepGiven}
use Rattle.steps.proofs.Marks.{no_steps}
use Rattle.gfa_spec.proofs.Parts.{length_part}
use Rattle.work.specs.Rows.{rows_at, EachRow, span, Only, Small}
use Rattle.tables.specs.Steps.{steps_at, StepRow}
use Rattle.steps.specs.declared.step_field.StepField.{StepField}
use Rattle.steps.specs.StepFields.{add_steps}
use Rattle.steps.specs.FieldSteps.{SameField, PutsSteps}
use Rattle.work.proofs.Rows.{only_none, only_put, only_kept, only_then, only_wider, outside_less, each_none, each_more}
use Rattle.tables.proofs.TableRows.{steps_kept, step_rows_kept, step_put, step_row_put}
use Rattle.steps.proofs.FieldSteps.{same_none, same_then}
use Rattle.steps.proofs.Items.{add_none, steps_snoc}
use Rattle.steps.proofs.Stepping.{add_add}
use Rattle.scan.proofs.LineEnds as lines

-- the steps that are left: none are left where all are read
pub rest : List Step → Read (List Step)
rest [] = accepted []
rest (s ∷ ss) = non_empty (s ∷ ss)

-- a step with a name, and one with none
rest_named : (s : Step) (ss : List Step) → is_empty s.name.bytes ≡ false → rest (s ∷ ss) ≡ add_steps (s ∷ []) (rest ss)
unfolding rest non_empty add_steps then
rest_named s [] e = rw e
rest_named s (t ∷ ts) e = rw e

rest_last : (s : Step) → is_empty s.name.bytes ≡ true → rest (s ∷ []) ≡ refused 17
unfolding rest non_empty
rest_last s e = rw e

rest_more : (s : Step) (ts : List Step) → 0 < length ts → is_empty s.name.bytes ≡ true → rest (s ∷ ts) ≡ refused 15
unfolding rest non_empty
rest_more s [] h e = absurd (omega arith)
rest_more s (t ∷ ts) h e = rw e

-- the steps that are left behind n others
pub rest_behind : ℕ → List Step → Read (List Step)
rest_behind zero ss = non_empty ss
rest_behind (suc n) ss = rest ss

-- where some are left
rest_some : (n : ℕ) (s : Step) (ss : List Step) → rest_behind n (s ∷ ss) ≡ rest (s ∷ ss)
unfolding rest_behind rest
rest_some zero s ss = refl
rest_some (suc n) s ss = refl

-- where none are left
rest_none : (n : ℕ) → (n ≡ 0 → ⊥) → rest_behind n [] ≡ accepted []
unfolding rest_behind rest
rest_none zero h = absurd (h refl)
rest_none (suc n) h = refl

-- what the definitions read of the field
abbrev pub walk_of : StepField → Read (List Step)
walk_of f = non_empty (walk f.field.start (part f.field.start f.field.size f.text.now)).steps

-- The state between two steps, s having those that are left: the walk's steps are those of the table, and then those that are left.
pub record Walking (old new : StepField) (s : Walk) (n : ℕ) : Type 0 where
  pub same : SameField old new
  pub text : s.text.now ≡ old.text.now
  pub end : s.end ≡ old.field.start + old.field.size
  pub few : 2 * n + old.field.start ≤ s.at
  pub long : length new.work.now ≡ length old.work.now
  pub whole : walk_of old ≡ add_steps (steps_at old.text.now new.work.now old.base n) (rest_behind n (steps_left s))
  pub rows : EachRow (StepRow old.text.now) 3 new.work.now old.base n
  pub only : Only (span old.base (old.base + 3 * n) ∷ []) old.work.now new.work.now

module _ {old : StepField} where
  pub walking_start : {s : Walk} → AllSteps old.text.now old.field s → Walking old old s 0
  unfolding steps_at rows_at rest_behind
  walking_start w =
      record {
        same = same_none;
        text = w.same;
        end = w.end;
        few = omega (arith, w.front);
        long = refl;
        whole = rw (w.left, add_none);
        rows = each_none;
        only = only_none;
      }

  -- the walk is refused: only rows that the field has room for changed
  refused_at : {new : StepField} {s : Walk} {n : ℕ} {k : Reason} → Walking old new s n → walk_of old ≡ refused (number_of k) → PutsSteps old (walk_of old) (Err k) new
  refused_at {s = s} {n = n} h e =
      record {
        same = h.same;
        steps =
            record {
              says =
                  record {
                    read = e;
                    long = h.long;
                    only = only_wider _ h.only (λ i o. (outside_less old.base (old.base + 3 * n) o.0 (omega arith) (omega (arith, h.few, h.end, s.inside.0)), tt));
                  };
            };
      }

  module _ {new : StepField} {s t : Walk} {n : ℕ} (h : Walking old new s n) where
    -- a walk without a mark, and the end of another
    pub walking_none : StepGiven s None t → n ≡ 0 → PutsSteps old (walk_of old) (Err NoStep) new
    unfolding rest_behind non_empty add_steps then
    walking_none g e = refused_at h (h.whole ∙ rw (g.says.0, e))

    pub walking_end : StepGiven s None t → (n ≡ 0 → ⊥) → PutsSteps old (walk_of old) (Ok n) new
    unfolding add_steps then
    walking_end g e =
        record {
          same = h.same;
          steps =
              record {
                says =
                    record {
                      read = h.whole ∙ rw (g.says.0, rest_none n e, append-nil);
                      few = omega (arith, h.few, h.end, s.inside.0);
                      rows = h.rows;
                      long = h.long;
                      only = h.only;
                    };
              };
        }

    module _ {w : StepWords} (g : StepGiven s (Some w) t) where
      left : rest_behind n (steps_left s) ≡ rest (step_of old.text.now w ∷ steps_left t)
      left = rw (g.says.first, rest_some, h.text)

      -- an empty last step, and another empty step
      pub walking_last : w.name.size ≡ 0 → w.name.start ≡ old.field.start + old.field.size → PutsSteps old (walk_of old) (Err EmptyLastStep) new
      unfolding add_steps then part_at part is_empty
      walking_last e f =
          let z = no_steps t.text.now t.at t.end (omega (arith, g.says.on, g.end, h.end, e, f)) in
          refused_at h (h.whole ∙ rw (left, z, rest_last (step_of old.text.now w) (rw e)))

      pub walking_empty : w.name.size ≡ 0 → (w.name.start ≡ old.field.start + old.field.size → ⊥) → PutsSteps old (walk_of old) (Err EmptyStep) new
      unfolding add_steps then part_at part is_empty
      walking_empty e f =
          let k : t.at < s.end = omega (arith, g.says.on, g.says.high, h.end, e, f) in
          refused_at h (h.whole ∙ rw (left, rest_more (step_of old.text.now w) (steps_left t) (g.says.more k) (rw e)))

      -- a step with a name is put into the table
      room : old.base + 3 * n + 3 ≤ length new.work.now
      room = omega (arith, old.room, h.few, h.long, h.end, g.says.low, g.says.high, g.says.on)

      pub walking_room : new.base + 3 * n + 3 ≤ length new.work.now
      walking_room = rw h.same.base room

      pub walking_small : Small (step_words w)
      walking_small =
          let small : (w.name.start < 4294967296) × (w.name.size < 4294967296) = omega (arith, old.short, old.inside, h.end, g.says.on, g.says.high) in
          (small.0, (small.1, (omega (arith, sign_small w.mark), tt)))

      pub walking_more : {next : StepField} → (w.name.size ≡ 0 → ⊥) → SameField new next → next.work.now ≡ sets new.work.now (new.base + 3 * n) (step_words w) → Walking old next t (n + 1)
      unfolding part_at rest_behind
      walking_more {next} e j p =
          let q : next.work.now ≡ sets new.work.now (old.base + 3 * n) (step_words w) = rw h.same.base at p in
          let text = old.text.now in
          let work = new.work.now in
          let name = w.name in
          let place = old.base + 3 * n in
          let row = step_words w in
          let only = only_put row work place in
          let low = only_kept old.base place only (inl (omega arith), tt) in
          let c = mul-suc 3 n in
          let here = g.says.on in
          let in_text : name.start + name.size ≤ length text = omega (arith, here, g.says.high, h.end, old.inside) in
          let some : 0 < length (part name.start name.size text) = omega (arith, length_part name.start name.size text in_text, e) in
          let put = step_put text work place name.start name.size (sign_of w.mark) room in
          let more : steps_at text (sets work place row) old.base (suc n) ≡ steps_at text work old.base n ++ (step_of text w ∷ []) =
          steps_snoc text (sets work place row) old.base n ∙ rw (steps_kept low text old.base n (omega arith) (omega arith), put)
          in
          rw (add-one n)
          (record {
            same = same_then h.same j;
            text = ap (λ x. x.now) g.same ∙ h.text;
            end = g.end ∙ h.end;
            few = omega (arith, h.few, here, g.says.low, e);
            long = rw q (length-sets work place row ∙ h.long);
            rows =
                rw q
                (each_more (step_rows_kept low text old.base n (omega arith) (omega arith) h.rows)
                (step_row_put text work place name.start name.size (sign_of w.mark) room in_text (sign_is w.mark)));
            whole = h.whole ∙ rw (left, rest_named (step_of text w) _ (lines.non_empty _ some), add_add, q, more);
            only =
                rw q
                (only_then _ h.only only
                (λ i a. ((outside_less old.base (old.base + 3 * n) a.0 (omega arith) (omega arith), tt), (outside_less place (place + 3) a.0 (omega arith) (omega arith), tt))));
          })

-- what the reading of a walk goes on by
pub ruleset walking = (walking_start, walking_none, walking_end, walking_last, walking_empty, walking_room, walking_small, walking_more)
