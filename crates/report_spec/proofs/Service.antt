-- When the report is answered and when it is refused, both ways: by 1 to 17 or 22, never by 18 to 21. Assumes nothing.
use Prim.Native.Nat.{ℕ, ◌≤◌, ◌<◌}
use native.Mathlib.Omega.{arith}
use mathlib.Core.List.{List}
use mathlib.Core.Logic.{◌⊎◌, inl, inr}
use mathlib.Core.Path.{◌≡◌, refl}
use lib.ListN.{length}
use Rattle.gfa_spec.specs.Reading.{Entry}
use Rattle.gfa_spec.specs.Calls.{Refusal, plainly, Input, entries, input, Outcome, answer}
use Rattle.gfa_spec.proofs.Admission.{Admitted, InputRefuses, input_refused, refused_input, input_entries, entries_input}
use Rattle.gfa_spec.proofs.Refusals.{NumberedInput, input_numbered}
use Rattle.gfa_spec.proofs.Answered.{not_answer, fitted_answer, answer_fitted, fitted_refused, refused_fitted}
use Rattle.report_spec.specs.Lines.{report}
use Rattle.report_spec.specs.Services.{report_entries, report_text}

-- Why a report is refused: 1 to 17, or 22, its bytes have no room.
pub data ReportRefuses (text : List ℕ) (top room work : ℕ) : Refusal → Type 0 where
  bad_input : {r : Refusal} → InputRefuses text work r → ReportRefuses text top room work r
  no_room : (es : List Entry) → Admitted text work es → room < length (report es top) → ReportRefuses text top room work (plainly 22)

-- What is said when it is answered: it is the report of the text, and had room.
pub record Reports (text : List ℕ) (top room work : ℕ) (bs : List ℕ) : Type 0 where
  pub es : List Entry
  pub admitted : Admitted text work es
  pub reported : report es top ≡ bs
  pub roomy : length bs ≤ room

module _ (text : List ℕ) (top room work : ℕ) where
  -- it is refused under its condition only
  pub report_refused : (r : Refusal) → report_text text top room work ≡ Outcome.refusal r → ReportRefuses text top room work r
  unfolding report_text
  report_refused r e = from_input (input text work) refl e
    where
      given : {q : Refusal} → ReportRefuses text top room work q → q ≡ r → ReportRefuses text top room work r
      given h same = rw same at h

      from_input : (i : Input) → input text work ≡ i → report_entries top room i ≡ Outcome.refusal r → ReportRefuses text top room work r
      from_input (Input.refusal q) j e = unfold report_entries in given (bad_input (input_refused text work q j)) (cc)
      from_input (entries es) j e =
          let (same, h) = fitted_refused room (report es top) r (unfold report_entries in e) in
          given (no_room es (input_entries text work es j) h) same

  -- and under its condition it is refused
  pub refused_report : {r : Refusal} → ReportRefuses text top room work r → report_text text top room work ≡ Outcome.refusal r
  unfolding report_text report_entries
  refused_report (bad_input h) = rw (refused_input text work h)
  refused_report (no_room es a h) = rw (entries_input text work es a) (refused_fitted room (report es top) h)

  -- it is answered where it has room
  pub report_answers : (bs : List ℕ) → Reports text top room work bs → report_text text top room work ≡ answer bs
  unfolding report_text report_entries
  report_answers bs h = rw (entries_input text work h.es h.admitted, h.reported) (answer_fitted room bs h.roomy)

  -- and what is answered is that
  pub answered_report : (bs : List ℕ) → report_text text top room work ≡ answer bs → Reports text top room work bs
  unfolding report_text
  answered_report bs e = from_input (input text work) refl e
    where
      from_input : (i : Input) → input text work ≡ i → report_entries top room i ≡ answer bs → Reports text top room work bs
      from_input (Input.refusal q) j e = unfold report_entries in absurd (not_answer e)
      from_input (entries es) j e =
          let (same, h) = fitted_answer room (report es top) bs (unfold report_entries in e) in
          record { es = es; admitted = input_entries text work es j; reported = same; roomy = rw same at h }

  -- the report never gives 18 to 21
  pub report_numbers : (r : Refusal) → report_text text top room work ≡ Outcome.refusal r → ((1 ≤ r.number) × (r.number ≤ 17)) ⊎ (r.number ≡ 22)
  unfolding report_text plainly
  report_numbers r e = from_input (input text work) (input_numbered text work) e
    where
      from_input : (i : Input) → NumberedInput i → report_entries top room i ≡ Outcome.refusal r → ((1 ≤ r.number) × (r.number ≤ 17)) ⊎ (r.number ≡ 22)
      from_input (Input.refusal q) h e = unfold report_entries in (let same : q.number ≡ r.number = cc in inl (omega arith))
      from_input (entries es) h e =
          let (same, room) = fitted_refused room (report es top) r (unfold report_entries in e) in
          let number : r.number ≡ 22 = cc in inr number
