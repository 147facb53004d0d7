-- Names that find a sequence: what is spelt has them, and where no step is bad all steps have them. Assumes nothing.
use Prim.Native.Nat.{ℕ}
use native.Mathlib.Omega.{arith}
use mathlib.Core.Bool.{true, false}
use mathlib.Core.List.{List, [], ◌∷◌}
use Rattle.std.specs.Prelude.{Option, None, Some}
use Rattle.gfa_spec.specs.Options.{map_or}
use mathlib.Core.Path.{◌≡◌, refl}
use Rattle.gfa_spec.specs.Bytes.{same, star, all, Each}
use Rattle.gfa_spec.specs.Reading.{Step, Segment, Path, Entry}
use Rattle.gfa_spec.specs.Records.{segments, sequence_of, sequence_or_empty, has_sequence}
use Rattle.gfa_spec.specs.Sequences.{complement, oriented}
use Rattle.gfa_spec.specs.Spelling.{Spelt, bad, spelt, behind, spell_step, spell}
use Rattle.gfa_spec.specs.Services.{bad_step}
use Rattle.gfa_spec.proofs.Tests.{by_test}

-- A name finds a sequence other than `*`.
pub record Known (ss : List Segment) (name : List ℕ) : Type 0 where
  pub sequence : List ℕ
  pub found : sequence_of ss name ≡ Some sequence
  pub explicit : same sequence star ≡ false

-- a known name has that sequence
pub known_sequence : (ss : List Segment) (name seq : List ℕ) → sequence_of ss name ≡ Some seq → sequence_or_empty ss name ≡ seq
unfolding sequence_or_empty
known_sequence ss name seq e = rw (e, sequence_or_empty)

-- a step on a known name has a sequence
pub known_has : (ss : List Segment) (s : Step) → Known ss s.name.bytes → has_sequence ss s ≡ true
unfolding has_sequence map_or
known_has ss s k = rw (k.found, k.explicit)

-- and so has each step of a list
pub all_known : (ss : List Segment) (steps : List Step) → Each (λ s. Known ss s.name.bytes) steps → all (has_sequence ss) steps ≡ true
unfolding all
all_known ss [] h = refl
all_known ss (s ∷ steps) h = rw (known_has ss s h.0) (all_known ss steps h.1)

-- ---- what is spelt

-- what is spelt behind a sequence is spelt
behind_spelt : (seq : List ℕ) (m : Spelt) (x : List ℕ) → behind seq m ≡ spelt x → (more : List ℕ) × (m ≡ spelt more)
unfolding behind
behind_spelt seq (bad n name) x e = let z : ◌≡◌ {A = ℕ} 0 1 = cc in absurd (omega arith)
behind_spelt seq (spelt more) x e = (more, refl)

module _ (comp : ℕ → ℕ) (ss : List Segment) where
  -- a step that is spelt is known, and so are those behind it
  step_spelt : (s : Step) (o : Option (List ℕ)) (m : Spelt) (x : List ℕ) → sequence_of ss s.name.bytes ≡ o → spell_step comp s o m ≡ spelt x
      → Known ss s.name.bytes × ((more : List ℕ) × (m ≡ spelt more))
  unfolding spell_step
  step_spelt s None m x e h = let z : ◌≡◌ {A = ℕ} 0 1 = cc in absurd (omega arith)
  step_spelt s (Some seq) m x e h =
      by_test (same seq star)
      (λ f. let z : ◌≡◌ {A = ℕ} 0 1 = cc (rw f at h) in absurd (omega arith))
      (λ f. (record { sequence = seq; found = e; explicit = f }, behind_spelt (oriented comp s.orientation seq) m x (rw f at h)))

  -- steps that are spelt are known
  pub spelt_known : (steps : List Step) (x : List ℕ) → spell comp ss steps ≡ spelt x → Each (λ s. Known ss s.name.bytes) steps
  unfolding spell
  spelt_known [] x h = tt
  spelt_known (s ∷ steps) x h =
      let (k, m) = step_spelt s (sequence_of ss s.name.bytes) (spell comp ss steps) x refl h in
      (k, spelt_known steps m.0 m.1)

-- Where no path has a bad step, all steps of all paths are known.
pub none_bad : (es : List Entry) (ps : List Path) → bad_step es ps ≡ None → Each (λ p. Each (λ s. Known (segments es) s.name.bytes) p.steps) ps
unfolding bad_step
none_bad es [] h = tt
none_bad es (p ∷ ps) h = go (λ q. none_bad es ps q) (spell complement (segments es) p.steps) refl
  where
    go : (bad_step es ps ≡ None → Each (λ p. Each (λ s. Known (segments es) s.name.bytes) p.steps) ps) → (m : Spelt) → spell complement (segments es) p.steps ≡ m
        → Each (λ p. Each (λ s. Known (segments es) s.name.bytes) p.steps) (p ∷ ps)
    go more (bad n name) e = let z : ◌≡◌ {A = ℕ} 0 1 = cc (rw (e, bad_step) at h) in absurd (omega arith)
    go more (spelt x) e = (spelt_known complement (segments es) p.steps x e, more (rw (e, bad_step) at h))
