-- Each refusal of a normalization comes under its condition and only there, and 20 never comes. Assumes nothing.
use Prim.Native.Nat.{ℕ, ◌<◌, ◌≤◌}
use native.Mathlib.Omega.{arith}
use mathlib.Core.Bool.{false}
use mathlib.Core.List.{List}
use mathlib.Core.Logic.{◌⊎◌, inl, inr}
use Rattle.std.specs.Prelude.{Option, None, Some}
use mathlib.Core.Path.{◌≡◌, refl, sym, ◌∙◌}
use lib.Dec.{ltb}
use lib.ListN.{length}
use borrow.Author.Tests.{ltb-true, lt-ltb}
use Rattle.gfa_spec.specs.Bytes.{is_empty}
use Rattle.gfa_spec.specs.Reading.{Entry}
use Rattle.gfa_spec.specs.Records.{paths}
use Rattle.gfa_spec.specs.Calls.{Refusal, plainly, Input, entries, input}
use Rattle.gfa_spec.proofs.Tests.{by_test}
use Rattle.gfa_spec.proofs.BadSteps.{bad_step_numbered}
use Rattle.gfa_spec.proofs.Refusals.{NumberedInput, input_numbered}
use Rattle.gfa_spec.proofs.Admission.{Admitted, InputRefuses, input_refused, refused_input, input_entries, entries_input}
use Rattle.gfa_spec.specs.Services.{bad_step}
use Rattle.normalize_spec.specs.Folding.{folded}
use Rattle.normalize_spec.specs.Counting.{Stats}
use Rattle.normalize_spec.specs.Services.{Normal, normal, fold, normalize_entries, normal_fitted, normalize}
use Rattle.normalize_spec.proofs.Demand.{spelling_unchanged}
use Rattle.normalize_spec.proofs.Service.{AcceptedAs, not_normal, entries_answer, answer_entries}

-- Why a normalization is refused: 1 to 17 before anything is folded; 18 or 19 where some segment is folded; 22 where the answer has no room.
pub data Refuses (text : List ℕ) (cap room work : ℕ) : Refusal → Type 0 where
  bad_input : {r : Refusal} → InputRefuses text work r → Refuses text cap room work r
  bad_step_refused : {r : Refusal} (es : List Entry) → Admitted text work es → is_empty (folded es cap) ≡ false → bad_step es (paths es) ≡ Some r
      → Refuses text cap room work r
  no_room : (es : List Entry) (output : List ℕ) (st : Stats) → Admitted text work es → AcceptedAs text cap es output st → room < length output
      → Refuses text cap room work (plainly 22)

module _ (text : List ℕ) (cap room work : ℕ) (r : Refusal) where
  -- a refusal that is given is the one at hand
  refuses_given : {q : Refusal} → Refuses text cap room work q → Normal.refusal q ≡ Normal.refusal r → Refuses text cap room work r
  refuses_given {q} h e = let same : q ≡ r = cc in rw same at h

  -- a folding that was refused
  fold_refused : (es : List Entry) (o : Option Refusal) → Admitted text work es → is_empty (folded es cap) ≡ false → bad_step es (paths es) ≡ o
      → fold es cap o ≡ Normal.refusal r
      → Refuses text cap room work r
  unfolding fold
  fold_refused es (Some q) a some-folded b e = refuses_given (bad_step_refused es a some-folded b) e
  fold_refused es None a some-folded b e = absurd (not_normal (sym (rw (spelling_unchanged es cap b) at e)))

  -- an input that is not answered
  input_unanswered : (i : Input) → input text work ≡ i → normalize_entries text cap i ≡ Normal.refusal r → Refuses text cap room work r
  unfolding normalize_entries
  input_unanswered (Input.refusal q) i e = refuses_given (bad_input (input_refused text work q i)) e
  input_unanswered (entries es) i e =
      by_test (is_empty (folded es cap))
      (λ h. absurd (not_normal (sym (rw h at e))))
      (λ h. fold_refused es (bad_step es (paths es)) (input_entries text work es i) h refl (rw h at e))

  -- an answer with no room
  unfitted : (i : Input) (n : Normal) → input text work ≡ i → normalize_entries text cap i ≡ n → normal_fitted room n ≡ Normal.refusal r → Refuses text cap room work r
  unfolding normal_fitted normalize_entries
  unfitted i (Normal.refusal q) j k e = input_unanswered i j (k ∙ e)
  unfitted (Input.refusal q) (normal output st) j k e = absurd (not_normal k)
  unfitted (entries es) (normal output st) j k e =
      by_test (ltb room (length output))
      (λ h. refuses_given (no_room es output st (input_entries text work es j) (entries_answer text cap es output st k) (ltb-true room (length output) h)) (rw h at e))
      (λ h. absurd (not_normal (sym (rw h at e))))

  -- a normalization is refused under its condition only
  pub normalize_refused : normalize text cap room work ≡ Normal.refusal r → Refuses text cap room work r
  unfolding normalize
  normalize_refused e = unfitted (input text work) (normalize_entries text cap (input text work)) refl refl e

-- and under its condition it is refused
pub refused_normalize : (text : List ℕ) (cap room work : ℕ) {r : Refusal} → Refuses text cap room work r → normalize text cap room work ≡ Normal.refusal r
unfolding normalize normalize_entries fold normal_fitted
refused_normalize text cap room work (bad_input h) = rw (refused_input text work h)
refused_normalize text cap room work (bad_step_refused es a some-folded b) = rw (entries_input text work es a, some-folded, b)
refused_normalize text cap room work (no_room es output st a answer less) = rw (entries_input text work es a, answer_entries text cap es output st answer, lt-ltb room (length output) less)

-- ---- the numbers of refusals

-- an answer, or a refusal by one of 1 to 19 or by 22
abbrev Numbered : Normal → Type 0
Numbered (Normal.refusal r) = (1 ≤ r.number) × ((r.number ≤ 19) ⊎ (r.number ≡ 22))
Numbered (normal output st) = Unit {0}

-- a folding
fold_numbered : (es : List Entry) (cap : ℕ) (o : Option Refusal) → bad_step es (paths es) ≡ o → Numbered (fold es cap o)
unfolding fold
fold_numbered es cap (Some r) b = let h = bad_step_numbered es (paths es) r b in (omega arith, inl h.1)
fold_numbered es cap None b = rw (spelling_unchanged es cap b) tt

-- a call
entries_numbered : (text : List ℕ) (cap : ℕ) (i : Input) → NumberedInput i → Numbered (normalize_entries text cap i)
unfolding normalize_entries
entries_numbered text cap (Input.refusal r) h = (omega arith, inl (omega arith))
entries_numbered text cap (entries es) h = by_test (is_empty (folded es cap)) (λ e. rw e tt) (λ e. rw e (fold_numbered es cap (bad_step es (paths es)) refl))

-- the room for the answer
fitted_numbered : (room : ℕ) (n : Normal) → Numbered n → Numbered (normal_fitted room n)
unfolding normal_fitted plainly
fitted_numbered room (Normal.refusal r) h = h
fitted_numbered room (normal output st) h = by_test (ltb room (length output)) (λ e. rw e (omega arith, inr refl)) (λ e. rw e tt)

-- a normalization is refused by one of 1 to 19, or by 22
pub normalize_numbers : (text : List ℕ) (cap room work : ℕ) (r : Refusal) → normalize text cap room work ≡ Normal.refusal r → (1 ≤ r.number) × ((r.number ≤ 19) ⊎ (r.number ≡ 22))
unfolding normalize
normalize_numbers text cap room work r e = rw e at (fitted_numbered room (normalize_entries text cap (input text work)) (entries_numbered text cap (input text work) (input_numbered text work)))

-- so none is refused by 20
pub never_20 : (text : List ℕ) (cap room work : ℕ) (r : Refusal) → normalize text cap room work ≡ Normal.refusal r → r.number ≡ 20 → ⊥
never_20 text cap room work r e q = go (normalize_numbers text cap room work r e).1
  where
    go : (r.number ≤ 19) ⊎ (r.number ≡ 22) → ⊥
    go (inl h) = omega arith
    go (inr h) = omega arith
