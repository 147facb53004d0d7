-- The steps of a P line, one item at a time: the state, and how it goes on. Assumes nothing.
use Rattle.std.specs.Prelude.{Result, Ok, Err, None, Some}
use Rattle.refusals.specs.declared.reason.Reason.{Reason}
use Prim.Native.Nat.{ℕ, ◌+◌, ◌*◌, ◌≤◌}
use native.Mathlib.Omega.{arith}
use mathlib.Core.List.{List, [], ◌∷◌, ◌++◌, append-nil, append_assoc}
use mathlib.Core.Path.{◌≡◌, refl, ap, sym, ◌∙◌}
use lib.ListN.{length}
use Rattle.gfa_spec.specs.Bytes.{part, split}
use Rattle.gfa_spec.specs.Reading.{Step, Read, refused, accepted, then, parse_items}
use Rattle.scan.specs.declared.places.Place.{Place}
use Rattle.scan.specs.declared.split.Split.{Split}
use Rattle.scan.specs.Places.{Inside, part_at}
use Rattle.scan.specs.Parts.{parts_left, AllParts, PartGiven}
use Rattle.work.specs.Rows.{rows_at, EachRow, span, Only}
use Rattle.tables.specs.Steps.{steps_at, StepRow}
use Rattle.steps.specs.declared.step_field.StepField.{StepField}
use Rattle.steps.specs.StepFields.{add_steps, ItemIs}
use Rattle.steps.specs.FieldSteps.{SameField, PutsSteps}
use Rattle.work.proofs.Rows.{only_none, only_then, only_wider, outside_less, each_none}
use Rattle.steps.proofs.FieldSteps.{same_none, same_then}
use Rattle.steps.proofs.Items.{add_none}

-- steps put before steps
pub add_add : (xs ys : List Step) (r : Read (List Step)) → add_steps xs (add_steps ys r) ≡ add_steps (xs ++ ys) r
unfolding add_steps then
add_add xs ys (refused n) = refl
add_add xs ys (accepted zs) = ap accepted (sym (append_assoc xs ys zs))

-- what the definitions read of the field
abbrev pub items_of : StepField → Read (List Step)
items_of f = parse_items (split 44 f.field.start (part f.field.start f.field.size f.text.now))

-- The state between two items, s having those that are left: the field's steps are those of the table, and then those of the items left; each
-- has taken three bytes.
pub record Stepping (old new : StepField) (s : Split) (n : ℕ) : Type 0 where
  pub same : SameField old new
  pub text : s.text.now ≡ old.text.now
  pub end : s.end ≡ old.field.start + old.field.size
  pub few : 3 * n + old.field.start ≤ s.at
  pub long : length new.work.now ≡ length old.work.now
  pub whole : items_of old ≡ add_steps (steps_at old.text.now new.work.now old.base n) (parse_items (parts_left s))
  pub rows : EachRow (StepRow old.text.now) 3 new.work.now old.base n
  pub only : Only (span old.base (old.base + 3 * n) ∷ []) old.work.now new.work.now

module _ {old : StepField} where
  pub stepping_start : {s : Split} → AllParts old.text.now 44 old.field s → Stepping old old s 0
  unfolding steps_at rows_at
  stepping_start w =
      record {
        same = same_none;
        text = w.same;
        end = w.end;
        few = omega (arith, w.front);
        long = refl;
        whole = rw (w.left, add_none);
        rows = each_none;
        only = only_none;
      }

  module _ {new : StepField} {s t : Split} {n : ℕ} (h : Stepping old new s n) where
    pub stepping_end : PartGiven s None t → PutsSteps old (items_of old) (Ok n) new
    unfolding parse_items add_steps then
    stepping_end g =
        record {
          same = h.same;
          steps =
              record {
                says =
                    record {
                      read = h.whole ∙ rw (g.says.0, append-nil);
                      few = omega (arith, h.few, h.end, s.inside.0);
                      rows = h.rows;
                      long = h.long;
                      only = h.only;
                    };
              };
        }

    module _ {item : Place} (g : PartGiven s (Some item) t) where
      pub stepping_inside : Inside new.text.now item
      stepping_inside = rw h.same.text (omega (arith, g.says.high, h.end, old.inside))

      pub stepping_room : new.base + 3 * n + 3 ≤ length new.work.now
      stepping_room = omega (arith, h.same.base, old.room, h.few, h.long, h.end, s.inside.0)

      module _ {next : StepField} {r : Result ℕ Reason} (j : SameField new next) (q : ItemIs new.text.now new.work.now next.work.now new.base n item r) where
        i : ItemIs old.text.now new.work.now next.work.now old.base n item r
        i = rw (h.same.text, h.same.base) at q

        read : parts_left s ≡ part_at old.text.now item.start item.size ∷ parts_left t
        read = g.says.first ∙ rw h.text

        pub stepping_bad : {k : Reason} → r ≡ Err k → PutsSteps old (items_of old) (Err k) next
        unfolding add_steps then
        stepping_bad e =
            let b = rw e at i.says in
            record {
              same = same_then h.same j;
              steps =
                  rw b.same
                  (record {
                    says =
                        record {
                          read = h.whole ∙ rw (read, b.read);
                          long = h.long;
                          only = only_wider _ h.only (λ i o. (outside_less old.base (old.base + 3 * n) o.0 (omega arith) (omega (arith, h.few, h.end, s.inside.0)), tt));
                        };
                  });
            }

        pub stepping_more : {m : ℕ} → r ≡ Ok m → Stepping old next t m
        stepping_more {m} e =
            let r = rw e at i.says in
            record {
              same = same_then h.same j;
              text = ap (λ l. l.now) g.same ∙ h.text;
              end = g.end ∙ h.end;
              few = omega (arith, h.few, r.high, r.one, g.says.here, g.says.on);
              long = r.long ∙ h.long;
              whole = h.whole ∙ rw (read, r.read, add_add, ← r.table);
              rows = r.rows h.rows;
              only =
                  only_then _ h.only r.only
                  (λ i o. (
                    (outside_less old.base (old.base + 3 * n) o.0 (omega arith) (omega (arith, r.low)), tt),
                    (outside_less (old.base + 3 * n) (old.base + 3 * m) o.0 (omega arith) (omega arith), tt),
                  ));
            }

-- what the reading of items goes on by
pub ruleset stepping = (stepping_start, stepping_inside, stepping_room, stepping_end)
