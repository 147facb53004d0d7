-- Every refusal of a normalization has a number. Assumes nothing.
use Prim.Native.Nat.{ℕ, ◌≤◌}
use native.Mathlib.Omega.{arith}
use mathlib.Core.List.{List}
use mathlib.Core.Path.{◌≡◌, refl}
use Rattle.gfa_spec.specs.Calls.{Refusal, Outcome}
use Rattle.normalize_spec.specs.Services.{Normal, normal, normalize}
use Rattle.normalize_spec.proofs.ServiceRefusals.{normalize_numbers}
use Rattle.normalize_answers.specs.Answered.{outcome_of}

pub numbered : (text : List ℕ) (cap room work : ℕ) (r : Refusal) → outcome_of (normalize text cap room work) ≡ Outcome.refusal r → 1 ≤ r.number
unfolding outcome_of
numbered text cap room work r e = go (normalize text cap room work) refl e
  where
    go : (o : Normal) → normalize text cap room work ≡ o → outcome_of o ≡ Outcome.refusal r → 1 ≤ r.number
    go (Normal.refusal q) n f =
        let same : q ≡ r = cc in
        rw same at (normalize_numbers text cap room work q n).0
    go (normal bs st) n f = let z : ◌≡◌ {A = ℕ} 0 1 = cc in absurd (omega arith)
