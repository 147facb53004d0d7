-- The items of a P line, put into the step table. Assumes nothing.
use Rattle.std.specs.Prelude.{Ok, Err, Option, None, Some}
use Rattle.refusals.specs.declared.reason.Reason.TheVariants.{BadStep}
use Rattle.scan.specs.declared.orientation.Orientation.{Orientation}
use Rattle.scan.specs.Orientations.{sign_of, OrientationIs}
use Rattle.scan.proofs.Orientations.{sign_is}
use Prim.Native.Nat.{ℕ, suc, ◌+◌, ◌*◌, ◌-◌, ◌≤◌, ◌<◌}
use native.Mathlib.Nat.{add_assoc, mul-suc}
use native.Mathlib.Numerals.{add-one}
use native.Mathlib.Omega.{arith}
use mathlib.Core.Bool.{false, and-false}
use mathlib.Core.List.{List, [], ◌∷◌, ◌++◌, append-nil, drop_last}
use mathlib.Core.Logic.{inl}
use mathlib.Core.Path.{◌≡◌, refl, ap, sym, ◌∙◌}
use lib.ListN.{length, get_or}
use lib.Seq.{sets, length-sets}
use Rattle.gfa_spec.specs.Bytes.{part, is_empty, last_byte}
use Rattle.gfa_spec.specs.Reading.{Step, Read, refused, accepted, then, is_orientation, is_step, step_of, parse_items}
use Rattle.scan.specs.Places.{part_at}
use Rattle.tables.specs.Steps.{step_at, steps_at}
use Rattle.steps.specs.StepFields.{add_steps, item_steps, ItemIs}
use Rattle.scan.specs.declared.places.Place.{Place}
use Rattle.scan.proofs.Cutting.{part_slice}
use Rattle.gfa_spec.proofs.Parts.{length_part}
use Rattle.work.proofs.Rows.{only_none, only_put, only_kept, rows_snoc, each_more}
use Rattle.tables.proofs.TableRows.{steps_kept, step_rows_kept, step_put, step_row_put}
use Rattle.scan.proofs.LineEnds.{last_byte_split, non_empty}

-- a string with a last byte
last_snoc : (s : List ℕ) (b : ℕ) → last_byte (s ++ (b ∷ [])) ≡ b
unfolding last_byte
last_snoc [] b = refl
last_snoc (x ∷ []) b = refl
last_snoc (x ∷ (y ∷ ys)) b = last_snoc (y ∷ ys) b

drop_snoc : (s : List ℕ) (b : ℕ) → drop_last (s ++ (b ∷ [])) ≡ s
drop_snoc [] b = refl
drop_snoc (x ∷ []) b = refl
drop_snoc (x ∷ (y ∷ ys)) b = ap (λ l. x ∷ l) (drop_snoc (y ∷ ys) b)

snoc_not_empty : (s : List ℕ) (b : ℕ) → is_empty (s ++ (b ∷ [])) ≡ false
unfolding is_empty
snoc_not_empty [] b = refl
snoc_not_empty (x ∷ xs) b = refl

-- one step more
pub steps_snoc : (text w : List ℕ) (base n : ℕ) → steps_at text w base (suc n) ≡ steps_at text w base n ++ (step_at text w (base + 3 * n) ∷ [])
unfolding steps_at
steps_snoc text w base n = rows_snoc (step_at text) 3 w base n

-- no steps put before
pub add_none : (r : Read (List Step)) → add_steps [] r ≡ r
unfolding add_steps then
add_none (refused n) = refl
add_none (accepted ys) = refl

-- an empty item is skipped
pub item_none : {text work : List ℕ} {base n : ℕ} {item : Place} → item.size ≡ 0 → ItemIs text work work base n item (Ok n)
unfolding parse_items item_steps part_at part is_empty
item_none {text} {work} {base} {n} {item} z =
    record {
      says =
          record {
            read = λ more. rw z (sym (add_none (parse_items more)));
            table = rw z (sym (append-nil _));
            rows = λ e. e;
            low = omega arith;
            high = omega arith;
            one = omega arith;
            long = refl;
            only = only_none;
          };
    }

-- an item that is not empty, with its last byte
last_cut : (text : List ℕ) (start size : ℕ) → start + size ≤ length text → (size ≡ 0 → ⊥) → part start size text ≡ part start (size - 1) text ++ (get_or text (start + (size - 1)) 0 ∷ [])
last_cut text start size h n =
    let e : start + size - 1 ≡ start + (size - 1) = omega arith in
    part_slice start size text ∙ last_byte_split text start (start + size) (omega arith) h ∙ rw (e, part_slice start (size - 1) text)

module _ {text : List ℕ} {item : Place} (inside : item.start + item.size ≤ length text) (some : item.size ≡ 0 → ⊥) where
  module _ {work : List ℕ} {base n : ℕ} where
    -- its last byte is no orientation, or there is no name before it
    pub item_no_mark : {r : Option Orientation} → OrientationIs (get_or text (item.start + (item.size - 1)) 0) r → r ≡ None → ItemIs text work work base n item (Err BadStep)
    unfolding parse_items is_step part_at
    item_no_mark e f = record { says = record { read = λ more. rw (last_cut text item.start item.size inside some, snoc_not_empty, last_snoc, (rw f at e.says)); same = refl } }

    pub item_no_name : item.size - 1 ≡ 0 → ItemIs text work work base n item (Err BadStep)
    unfolding parse_items is_step part_at is_empty part
    item_no_name e = record { says = record { read = λ more. rw (last_cut text item.start item.size inside some, snoc_not_empty, drop_snoc, e, and-false); same = refl } }

    -- a step is put into the table
    pub item_put : {work' : List ℕ} {r : Option Orientation} {o : Orientation} → OrientationIs (get_or text (item.start + (item.size - 1)) 0) r → r ≡ Some o → (item.size - 1 ≡ 0 → ⊥) →
        base + 3 * n + 3 ≤ length work → work' ≡ sets work (base + 3 * n) (item.start ∷ (item.size - 1) ∷ sign_of o ∷ []) → ItemIs text work work' base n item (Ok (n + 1))
    unfolding parse_items is_step item_steps step_of add_steps part_at
    item_put {o = o} is f e h q =
        let b : get_or text (item.start + (item.size - 1)) 0 ≡ sign_of o = rw f at is.says in
        let t = ap is_orientation b ∙ sign_is o in
        let at = base + 3 * n in
        let row = item.start ∷ (item.size - 1) ∷ sign_of o ∷ [] in
        let only = only_put row work at in
        let low = only_kept base at only (inl (omega arith), tt) in
        let m = mul-suc 3 n in
        let s : 0 < length (part item.start (item.size - 1) text) = omega (arith, length_part item.start (item.size - 1) text (omega arith), e) in
        rw (q, add-one)
        (record {
          says =
              record {
                read = λ more. rw (last_cut text item.start item.size inside some, snoc_not_empty, last_snoc, drop_snoc, t, non_empty _ s);
                table =
                    steps_snoc text (sets work at row) base n
                    ∙ rw (
                      steps_kept low text base n (omega arith) (omega arith),
                      step_put text work at item.start (item.size - 1) (sign_of o) h,
                      last_cut text item.start item.size inside some,
                      snoc_not_empty,
                      drop_snoc,
                      last_snoc,
                      b,
                    );
                rows = λ e.
                    each_more (step_rows_kept low text base n (omega arith) (omega arith) e)
                    (step_row_put text work at item.start (item.size - 1) (sign_of o) h (omega arith) (sign_is o));
                low = omega arith;
                high = omega (arith, e);
                one = omega arith;
                long = length-sets work at row;
                only = rw (mul-suc, ← add_assoc) only;
              };
        })
