-- A step is bad only under the condition of its number, and its place and length name its bytes in the text. Assumes nothing.
use Prim.Native.Nat.{ℕ, ◌+◌, ◌≤◌}
use native.Mathlib.Omega.{arith}
use mathlib.Core.List.{List, [], ◌∷◌}
use Rattle.std.specs.Prelude.{Option, None, Some}
use mathlib.Core.Path.{◌≡◌, refl, ap, ◌∙◌}
use lib.ListN.{length}
use Rattle.gfa_spec.specs.Bytes.{same, star, Part, part, Each}
use Rattle.gfa_spec.specs.Reading.{Step, Segment, Path, Entry, parsed, parse}
use Rattle.gfa_spec.specs.Records.{segments, paths, sequence_of}
use Rattle.gfa_spec.specs.Sequences.{complement, oriented}
use Rattle.gfa_spec.specs.Spelling.{Spelt, bad, spelt, behind, spell_step, spell}
use Rattle.gfa_spec.specs.Calls.{Refusal, on_name}
use Rattle.gfa_spec.specs.Services.{bad_step}
use Rattle.gfa_spec.proofs.Tests.{by_test, same_equal}
use Rattle.gfa_spec.proofs.Splitting.{Within}
use Rattle.gfa_spec.proofs.Located.{NameWithin, names_within, within_part}
use Rattle.gfa_spec.proofs.Refusals.{NumberedSpelt, spell_numbered}

-- Why a name is bad: no segment has it (18), or its segment has sequence `*` (19).
pub data BadName (ss : List Segment) : ℕ → Part → Type 0 where
  names_no_segment : {name : Part} → sequence_of ss name.bytes ≡ None → BadName ss 18 name
  no_sequence : {name : Part} → sequence_of ss name.bytes ≡ Some star → BadName ss 19 name

-- what is bad behind bytes is bad
behind_bad : (seq : List ℕ) (r : Spelt) (n : ℕ) (name : Part) → behind seq r ≡ bad n name → r ≡ bad n name
unfolding behind
behind_bad seq (bad m other) n name e = e
behind_bad seq (spelt bs) n name e = let z : ◌≡◌ {A = ℕ} 0 1 = cc in absurd (omega arith)

module _ (F : Part → Type 0) (comp : ℕ → ℕ) (ss : List Segment) where
  -- a bad name that is given is the one at hand
  given : (m n : ℕ) (other name : Part) → BadName ss m other × F other → bad m other ≡ bad n name → BadName ss n name × F name
  given m n other name h e =
      let number : m ≡ n = cc in
      let part : other ≡ name = cc in
      rw (number, part) at h

  -- a step is bad, or one behind it
  step_bad : (s : Step) (o : Option (List ℕ)) (r : Spelt) (n : ℕ) (name : Part) → sequence_of ss s.name.bytes ≡ o → F s.name
      → (r ≡ bad n name → BadName ss n name × F name) → spell_step comp s o r ≡ bad n name → BadName ss n name × F name
  unfolding spell_step
  step_bad s None r n name q f more e = given 18 n s.name name (names_no_segment q, f) e
  step_bad s (Some seq) r n name q f more e =
      by_test (same seq star)
      (λ t. given 19 n s.name name (no_sequence (q ∙ ap Some (same_equal seq star t)), f) (rw t at e))
      (λ t. more (behind_bad (oriented comp s.orientation seq) r n name (rw t at e)))

  -- A bad step is bad under its number's condition, and its name has what each step's name has.
  pub spell_bad : (steps : List Step) (n : ℕ) (name : Part) → Each (λ s. F s.name) steps → spell comp ss steps ≡ bad n name → BadName ss n name × F name
  unfolding spell
  spell_bad [] n name h e = let z : ◌≡◌ {A = ℕ} 0 1 = cc in absurd (omega arith)
  spell_bad (s ∷ steps) n name h e = step_bad s (sequence_of ss s.name.bytes) (spell comp ss steps) n name refl h.0 (spell_bad steps n name h.1) e

-- ---- the first bad step of all paths

-- What a refusal by 18 or 19 says: its place and length name bytes of the text, and under its number's condition they are a bad name.
pub record NamesBad (text : List ℕ) (es : List Entry) (r : Refusal) : Type 0 where
  pub number : ℕ
  pub name : Part
  pub is : r ≡ on_name number name
  pub why : BadName (segments es) number name
  pub inside : r.from + r.length ≤ length text
  pub named : part r.from r.length text ≡ name.bytes

-- the refusal of a bad name that stands in the text
names_bad : (text : List ℕ) (es : List Entry) (n : ℕ) (name : Part) (r : Refusal) → BadName (segments es) n name × Within 0 text name → Some (on_name n name) ≡ Some r
    → NamesBad text es r
unfolding on_name
names_bad text es n name r h e =
    let given : on_name n name ≡ r = cc in
    let (inside, named) = within_part text name h.1 in
    rw (← given) record { number = n; name = name; is = refl; why = h.0; inside = inside; named = named }

-- the first bad step of paths whose names stand in the text
bad_named : (text : List ℕ) (es : List Entry) (ps : List Path) (r : Refusal) → Each (λ p. Each (NameWithin text) p.steps) ps → bad_step es ps ≡ Some r
    → NamesBad text es r
unfolding bad_step
bad_named text es [] r h e = let z : ◌≡◌ {A = ℕ} 0 1 = cc in absurd (omega arith)
bad_named text es (p ∷ ps) r h e = go (spell complement (segments es) p.steps) refl (bad_named text es ps r h.1)
  where
    go : (q : Spelt) → spell complement (segments es) p.steps ≡ q → (bad_step es ps ≡ Some r → NamesBad text es r) → NamesBad text es r
    go (bad n name) d more = names_bad text es n name r (spell_bad (Within 0 text) complement (segments es) p.steps n name h.0 d) (rw (d, bad_step) at e)
    go (spelt bs) d more = more (rw (d, bad_step) at e)

-- A refusal by 18 or 19 names a bad step of the text.
pub step_refused : (text : List ℕ) (es : List Entry) (r : Refusal) → parse text ≡ parsed es → bad_step es (paths es) ≡ Some r → NamesBad text es r
step_refused text es r reads e = bad_named text es (paths es) r (names_within text es reads) e

-- the first bad step is refused by 18 or 19
pub bad_step_numbered : (es : List Entry) (ps : List Path) (r : Refusal) → bad_step es ps ≡ Some r → (18 ≤ r.number) × (r.number ≤ 19)
unfolding bad_step on_name
bad_step_numbered es [] r e = let z : ◌≡◌ {A = ℕ} 0 1 = cc in absurd (omega arith)
bad_step_numbered es (p ∷ ps) r e = go (spell complement (segments es) p.steps) refl (spell_numbered complement (segments es) p.steps) (bad_step_numbered es ps r)
  where
    go : (m : Spelt) → spell complement (segments es) p.steps ≡ m → NumberedSpelt m → (bad_step es ps ≡ Some r → (18 ≤ r.number) × (r.number ≤ 19))
        → (18 ≤ r.number) × (r.number ≤ 19)
    go (bad n name) s h more = let same : r.number ≡ n = cc (rw (s, bad_step) at e) in omega arith
    go (spelt x) s h more = more (rw (s, bad_step) at e)
