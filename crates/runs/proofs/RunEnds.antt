-- The search for the end of a run. Assumes nothing.
use denote.Enum.Bare.{sameb}
use Rattle.scan.specs.contracts.orientation.Orientation.{the_type}
use Rattle.scan.proofs.Orientations.{eq_signs}
use Prim.Native.Nat.{ℕ, suc, ◌+◌, ◌-◌, ◌≤◌, ◌<◌}
use native.Mathlib.Omega.{arith}
use mathlib.Core.Bool.{Bool, true, false, and-true, and-false}
use mathlib.Core.List.{List, [], ◌∷◌}
use mathlib.Core.Path.{◌≡◌, sym, ap, ◌∙◌}
use lib.ListN.{length}
use Rattle.gfa_spec.specs.Bytes.{Each}
use Rattle.gfa_spec.specs.Reading.{Step}
use Rattle.gfa_spec.specs.Runs.{runs, same_node, same_step}
use Rattle.gfa_spec.proofs.Each.{each_append}
use Rattle.gfa_spec.proofs.Runs.{Differs, runs_cut}
use Rattle.tables.specs.declared.tables.Bases.{Bases}
use Rattle.tables.specs.declared.rows.StepWords.{StepWords}
use Rattle.tables.specs.ByNumber.{step_no, steps_from, step_of, StepIs}
use Rattle.tables.proofs.ByNumber.{steps_next, steps_none, steps_cut, steps_more, steps_length}
use Rattle.runs.specs.Runs.{RunFrom}

-- ---- two steps

module _ (text : List ℕ) (a c : StepWords) {r : Bool} (e : r ≡ sameb the_type a.mark c.mark) where
  -- steps of two orientations differ
  pub turned : r ≡ false → r ≡ same_step (step_of text a) (step_of text c)
  unfolding same_step
  turned h = h ∙ rw (← eq_signs a.mark c.mark, ← e, h) (sym (and-false (same_node (step_of text a) (step_of text c))))

  -- steps of one orientation are equal where they are on one node
  pub turned_alike : {q : Bool} → r ≡ true → q ≡ same_node (step_of text a) (step_of text c) → q ≡ same_step (step_of text a) (step_of text c)
  unfolding same_step
  turned_alike h p = p ∙ rw (← eq_signs a.mark c.mark, ← e, h) (sym (and-true (same_node (step_of text a) (step_of text c))))

-- ---- the run

-- The state at j: the steps behind step i and before step j are equal to step i.
pub record Equal (text work : List ℕ) (b : Bases) (i end j : ℕ) : Type 0 where
  pub low : i < j
  pub high : j ≤ end
  pub equal : Each (λ s. same_step (step_no text work b i) s ≡ true) (steps_from text work b (i + 1) j)

module _ {text work : List ℕ} {b : Bases} {i end : ℕ} where
  pub equal_start : i < end → Equal text work b i end (i + 1)
  equal_start h = record { low = omega arith; high = omega arith; equal = rw (steps_none text work b (i + 1) (i + 1) (omega arith)) tt }

  module _ {j : ℕ} (s : Equal text work b i end j) where
    -- a run that ends at step j
    cut : Differs (step_no text work b i) (steps_from text work b j end) → RunFrom text work b i end j
    cut d =
        let here = step_no text work b i in
        let between = steps_from text work b (i + 1) j in
        let after = steps_from text work b j end in
        let all = steps_next text work b i end (omega (arith, s.low, s.high)) ∙ ap (λ (ss : List Step). here ∷ ss) (steps_cut text work b (i + 1) j end (omega (arith, s.low)) s.high) in
        let long : suc (length between) ≡ j - i = omega (arith, steps_length text work b (i + 1) j, s.low) in
        record { first = ap runs all ∙ runs_cut here between after s.equal d ∙ rw long; low = s.low; high = s.high }

    -- the run ends with the steps
    pub equal_end : end ≤ j → RunFrom text work b i end j
    equal_end h = cut (rw (steps_none text work b j end h) tt)

    module _ (h : j < end) {first next : StepWords} {r : Bool} (f : StepIs text work b i first) (g : StepIs text work b j next)
        (e : r ≡ same_step (step_of text first) (step_of text next)) where
      says : r ≡ same_step (step_no text work b i) (step_no text work b j)
      says = e ∙ rw (f.step, g.step)

      -- the run ends at step j, which differs
      pub equal_differs : r ≡ false → RunFrom text work b i end j
      equal_differs z = cut (rw (steps_next text work b j end h) (sym says ∙ z))

      -- step j is one more of the run
      pub equal_more : r ≡ true → Equal text work b i end (j + 1)
      equal_more z =
          record {
            low = omega (arith, s.low);
            high = omega arith;
            equal =
                rw (steps_more text work b (i + 1) j (omega (arith, s.low)))
                (each_append _ (steps_from text work b (i + 1) j) (step_no text work b j ∷ []) s.equal (sym says ∙ z, tt));
          }

-- what the search for the end of a run goes on by
pub ruleset running = (equal_start, equal_differs, equal_more, equal_end)
