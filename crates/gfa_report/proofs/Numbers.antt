-- Every refusal of the report has a number. Assumes nothing.
use Prim.Native.Nat.{ℕ, ◌≤◌}
use native.Mathlib.Omega.{arith}
use mathlib.Core.List.{List}
use mathlib.Core.Logic.{◌⊎◌, inl, inr}
use mathlib.Core.Path.{◌≡◌}
use Rattle.gfa_spec.specs.Calls.{Refusal, Outcome}
use Rattle.report_spec.specs.Services.{report_text}
use Rattle.report_spec.proofs.Service.{report_numbers}

pub numbered : (text : List ℕ) (top room work : ℕ) (r : Refusal) → report_text text top room work ≡ Outcome.refusal r → 1 ≤ r.number
numbered text top room work r e = go (report_numbers text top room work r e)
  where
    go : ((1 ≤ r.number) × (r.number ≤ 17)) ⊎ (r.number ≡ 22) → 1 ≤ r.number
    go (inl h) = h.0
    go (inr h) = omega arith
