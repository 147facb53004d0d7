-- Words stored one behind the other: the state of a loop that fills a part of the work area. Assumes nothing.
use Prim.Native.Nat.{ℕ, ◌+◌, ◌≤◌, ◌<◌}
use native.Mathlib.Omega.{arith}
use mathlib.Core.List.{List, [], ◌∷◌}
use mathlib.Core.Logic.{◌⊎◌, inl, inr}
use mathlib.Core.Path.{◌≡◌, refl, ◌∙◌}
use lib.ListN.{length, get_or, set, length-set}
use lib.Seq.{get_or-set_same, get_or-set_other}
use borrow.Author.Count.{below_more}
use Rattle.work.specs.Rows.{span, Only}
use Rattle.work.proofs.Rows.{only_none, only_then, outside_less}

-- a word within a range changes
pub only_set : {a b : ℕ} (w : List ℕ) (at v : ℕ) → a ≤ at → at < b → Only (span a b ∷ []) w (set w at v)
only_set {a} {b} w at v l h = record { word = λ i o. get_or-set_other w at i v 0 (apart i o.0) }
  where
    apart : (i : ℕ) → (i < a) ⊎ (b ≤ i) → i ≡ at → ⊥
    apart i (inl p) e = omega arith
    apart i (inr p) e = omega arith

-- The state at i: the words below it are those of v.
pub record Filling (v : ℕ → ℕ) (before work : List ℕ) (base count i : ℕ) : Type 0 where
  pub room : base + count ≤ length before
  pub high : i ≤ count
  pub done : (j : ℕ) → j < i → get_or work (base + j) 0 ≡ v j
  pub long : length work ≡ length before
  pub only : Only (span base (base + i) ∷ []) before work

module _ {v : ℕ → ℕ} {before : List ℕ} {base count : ℕ} where
  pub filling_start : base + count ≤ length before → Filling v before before base count 0
  filling_start h = record { room = h; high = omega arith; done = λ j l. absurd (omega arith); long = refl; only = only_none }

  module _ {work : List ℕ} {i : ℕ} (s : Filling v before work base count i) where
    -- a word that is not stored yet
    pub filling_ahead : (k : ℕ) → base + i ≤ k → get_or work k 0 ≡ get_or before k 0
    filling_ahead k h = s.only.word k (inr h, tt)

    -- and one before them all
    pub filling_behind : (k : ℕ) → k < base → get_or work k 0 ≡ get_or before k 0
    filling_behind k h = s.only.word k (inl h, tt)

    pub filling_more : (x : ℕ) → i < count → x ≡ v i → Filling v before (set work (base + i) x) base count (i + 1)
    filling_more x h e =
        record {
          room = s.room;
          high = omega arith;
          done =
              below_more (λ j. get_or (set work (base + i) x) (base + j) 0 ≡ v j) i
              (λ j l. get_or-set_other work (base + i) (base + j) x 0 (λ q. omega arith) ∙ s.done j l)
              (get_or-set_same work (base + i) x 0 (omega (arith, s.room, s.long)) ∙ e);
          long = length-set work (base + i) x ∙ s.long;
          only = only_then (span base (base + (i + 1)) ∷ []) s.only (only_set work (base + i) x (omega arith) (omega arith)) (λ j o. ((outside_less base (base + i) o.0 (omega arith) (omega arith), tt), o));
        }

    pub filling_end : count ≤ i → ((j : ℕ) → j < count → get_or work (base + j) 0 ≡ v j) × Only (span base (base + count) ∷ []) before work
    filling_end h =
        let e : i ≡ count = omega (arith, s.high) in
        (λ j l. s.done j (omega arith), rw e at s.only)
