-- When a service answers and when it refuses, both ways: what fits, and the service that spells a path. Assumes nothing.
use Prim.Native.Nat.{ℕ, zero, suc, ◌≤◌, ◌<◌}
use native.Mathlib.Omega.{arith}
use mathlib.Core.List.{List, [], ◌∷◌}
use Rattle.std.specs.Prelude.{Option, None, Some}
use mathlib.Core.Path.{◌≡◌, refl, sym}
use lib.Dec.{ltb}
use lib.ListN.{length}
use borrow.Author.Tests.{ltb-true, ltb-false, lt-ltb, le-ltb}
use Rattle.gfa_spec.specs.Reading.{Path, Entry}
use Rattle.gfa_spec.specs.Records.{segments, paths}
use Rattle.gfa_spec.specs.Sequences.{complement}
use Rattle.gfa_spec.specs.Spelling.{Spelt, bad, spelt, spell}
use Rattle.gfa_spec.specs.Calls.{Refusal, plainly, on_name, Input, entries, input, Outcome, answer, fitted}
use Rattle.gfa_spec.specs.Services.{nth_path, of_spelt, of_path, spell_entries, spell_path}
use Rattle.gfa_spec.specs.Bytes.{Part, nth}
use Rattle.gfa_spec.proofs.Tests.{by_test}
use Rattle.gfa_spec.proofs.Admission.{Admitted, InputRefuses, input_refused, refused_input, input_entries, entries_input}

-- ---- path k

-- path k of a list that has so many
pub path_some : (k : ℕ) (ps : List Path) (d : Path) → k < length ps → nth_path k ps ≡ Some (nth k ps d)
unfolding nth_path nth
path_some k [] d h = absurd (omega arith)
path_some zero (p ∷ ps) d h = refl
path_some (suc k) (p ∷ ps) d h = path_some k ps d (omega arith)

-- and of one that has not
pub path_none : (k : ℕ) (ps : List Path) → length ps ≤ k → nth_path k ps ≡ None
unfolding nth_path
path_none k [] h = refl
path_none zero (p ∷ ps) h = absurd (omega arith)
path_none (suc k) (p ∷ ps) h = path_none k ps (omega arith)

-- ---- what fits

-- a refusal is no answer
pub not_answer : {r : Refusal} {out : List ℕ} → Outcome.refusal r ≡ answer out → ⊥
not_answer e = let z : ◌≡◌ {A = ℕ} 0 1 = cc in omega arith

-- what is answered is what was to be, and had room
pub fitted_answer : (room : ℕ) (bs out : List ℕ) → fitted room bs ≡ answer out → (bs ≡ out) × (length bs ≤ room)
unfolding fitted
fitted_answer room bs out e =
    by_test (ltb room (length bs))
    (λ h. absurd (not_answer (rw h at e)))
    (λ h. let same : bs ≡ out = cc (rw h at e) in (same, ltb-false room (length bs) h))

-- and what has room is answered
pub answer_fitted : (room : ℕ) (bs : List ℕ) → length bs ≤ room → fitted room bs ≡ answer bs
unfolding fitted
answer_fitted room bs h = rw (le-ltb room (length bs) h)

-- what is refused is refused by 22, and had no room
pub fitted_refused : (room : ℕ) (bs : List ℕ) (r : Refusal) → fitted room bs ≡ Outcome.refusal r → (plainly 22 ≡ r) × (room < length bs)
unfolding fitted
fitted_refused room bs r e =
    by_test (ltb room (length bs))
    (λ h. let same : plainly 22 ≡ r = cc (rw h at e) in (same, ltb-true room (length bs) h))
    (λ h. absurd (not_answer (sym (rw h at e))))

-- and what has no room is refused so
pub refused_fitted : (room : ℕ) (bs : List ℕ) → room < length bs → fitted room bs ≡ Outcome.refusal (plainly 22)
unfolding fitted
refused_fitted room bs h = rw (lt-ltb room (length bs) h)

-- ---- the service that spells path k

-- Why it refuses: 1 to 17; 21, there is no path k; 18 or 19, the first bad step of path k; 22, its bytes have no room.
pub data SpellRefuses (text : List ℕ) (k room work : ℕ) : Refusal → Type 0 where
  bad_input : {r : Refusal} → InputRefuses text work r → SpellRefuses text k room work r
  no_path : (es : List Entry) → Admitted text work es → nth_path k (paths es) ≡ None → SpellRefuses text k room work (plainly 21)
  bad_step_refused : (es : List Entry) (p : Path) (n : ℕ) (name : Part) → Admitted text work es → nth_path k (paths es) ≡ Some p
      → spell complement (segments es) p.steps ≡ bad n name → SpellRefuses text k room work (on_name n name)
  no_room : (es : List Entry) (p : Path) (bs : List ℕ) → Admitted text work es → nth_path k (paths es) ≡ Some p
      → spell complement (segments es) p.steps ≡ spelt bs → room < length bs → SpellRefuses text k room work (plainly 22)

-- What it says when it answers: there is a path k, it spells these bytes, and they had room.
pub record Spells (text : List ℕ) (k room work : ℕ) (bs : List ℕ) : Type 0 where
  pub es : List Entry
  pub path : Path
  pub admitted : Admitted text work es
  pub found : nth_path k (paths es) ≡ Some path
  pub spelled : spell complement (segments es) path.steps ≡ spelt bs
  pub roomy : length bs ≤ room

module _ (text : List ℕ) (k room work : ℕ) where
  -- it refuses under its condition only
  pub spell_refused : (r : Refusal) → spell_path text k room work ≡ Outcome.refusal r → SpellRefuses text k room work r
  unfolding spell_path
  spell_refused r e = from_input (input text work) refl e
    where
      given : {q : Refusal} → SpellRefuses text k room work q → q ≡ r → SpellRefuses text k room work r
      given h same = rw same at h

      from_spelt : (es : List Entry) (p : Path) → Admitted text work es → nth_path k (paths es) ≡ Some p → (m : Spelt) → spell complement (segments es) p.steps ≡ m
          → of_spelt room m ≡ Outcome.refusal r → SpellRefuses text k room work r
      from_spelt es p a f (bad n name) s e = unfold of_spelt in given (bad_step_refused es p n name a f s) (cc)
      from_spelt es p a f (spelt bs) s e = let (same, h) = fitted_refused room bs r (unfold of_spelt in e) in given (no_room es p bs a f s h) same

      from_path : (es : List Entry) → Admitted text work es → (o : Option Path) → nth_path k (paths es) ≡ o → of_path room es o ≡ Outcome.refusal r
          → SpellRefuses text k room work r
      from_path es a None f e = unfold of_path in given (no_path es a f) (cc)
      from_path es a (Some p) f e = from_spelt es p a f (spell complement (segments es) p.steps) refl (unfold of_path in e)

      from_input : (i : Input) → input text work ≡ i → spell_entries k room i ≡ Outcome.refusal r → SpellRefuses text k room work r
      from_input (Input.refusal q) j e = unfold spell_entries in given (bad_input (input_refused text work q j)) (cc)
      from_input (entries es) j e = from_path es (input_entries text work es j) (nth_path k (paths es)) refl (unfold spell_entries in e)

  -- and under its condition it refuses
  pub refused_spell : {r : Refusal} → SpellRefuses text k room work r → spell_path text k room work ≡ Outcome.refusal r
  unfolding spell_path spell_entries of_path of_spelt
  refused_spell (bad_input h) = rw (refused_input text work h)
  refused_spell (no_path es a f) = rw (entries_input text work es a, f)
  refused_spell (bad_step_refused es p n name a f s) = rw (entries_input text work es a, f, s)
  refused_spell (no_room es p bs a f s h) = rw (entries_input text work es a, f, s) (refused_fitted room bs h)

  -- it answers the bytes that path k spells, where they have room
  pub spell_answers : (bs : List ℕ) → Spells text k room work bs → spell_path text k room work ≡ answer bs
  unfolding spell_path spell_entries of_path of_spelt
  spell_answers bs h = rw (entries_input text work h.es h.admitted, h.found, h.spelled) (answer_fitted room bs h.roomy)

  -- and what it answers is that
  pub answered_spell : (bs : List ℕ) → spell_path text k room work ≡ answer bs → Spells text k room work bs
  unfolding spell_path
  answered_spell bs e = from_input (input text work) refl e
    where
      from_spelt : (es : List Entry) (p : Path) → Admitted text work es → nth_path k (paths es) ≡ Some p → (m : Spelt) → spell complement (segments es) p.steps ≡ m
          → of_spelt room m ≡ answer bs → Spells text k room work bs
      from_spelt es p a f (bad n name) s e = unfold of_spelt in absurd (not_answer e)
      from_spelt es p a f (spelt out) s e =
          let (same, h) = fitted_answer room out bs (unfold of_spelt in e) in
          record { es = es; path = p; admitted = a; found = f; spelled = rw same at s; roomy = rw same at h }

      from_path : (es : List Entry) → Admitted text work es → (o : Option Path) → nth_path k (paths es) ≡ o → of_path room es o ≡ answer bs → Spells text k room work bs
      from_path es a None f e = unfold of_path in absurd (not_answer e)
      from_path es a (Some p) f e = from_spelt es p a f (spell complement (segments es) p.steps) refl (unfold of_path in e)

      from_input : (i : Input) → input text work ≡ i → spell_entries k room i ≡ answer bs → Spells text k room work bs
      from_input (Input.refusal q) j e = unfold spell_entries in absurd (not_answer e)
      from_input (entries es) j e = from_path es (input_entries text work es j) (nth_path k (paths es)) refl (unfold spell_entries in e)
