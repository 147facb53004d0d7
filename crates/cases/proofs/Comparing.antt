-- What the comparisons tell. Assumes nothing.
use Prim.Native.Nat.{ℕ, ◌+◌, ◌-◌, ◌≤◌, ◌<◌}
use native.Mathlib.Omega.{arith}
use mathlib.Core.Bool.{true, false≢true}
use mathlib.Core.List.{List}
use mathlib.Core.Path.{◌≡◌, sym, ap, ◌∙◌}
use lib.Dec.{eqb}
use lib.ListN.{length, get_or, take, drop}
use lib.Pointwise.{bytes_decides}
use Rattle.std.specs.List.{list_all, starts_with}
use Rattle.gfa_spec.specs.Bytes.{part}
use Rattle.std.proofs.lemmas.Bool.{eqb-true}
use Rattle.std.proofs.lemmas.List.{get_or-drop, get_or-take, length-drop, length-take, length-take-le}
use Rattle.std.proofs.lemmas.List.Folds.{list_all_at}
use Rattle.gfa_spec.proofs.Tests.{by_test}
use Rattle.cases.specs.Cases.{EachIs, SameNumbers}

-- where all are x, so is each
each_of : (x : ℕ) (xs : List ℕ) (i : ℕ) → list_all (λ y. eqb y x) xs ≡ true → i < length xs → get_or xs i 0 ≡ x
each_of x xs i h l = by_test (eqb (get_or xs i 0) x) (λ e. eqb-true _ x e) (λ e. absurd (false≢true (sym (list_all_at (λ y. eqb y x) xs i 0 l e) ∙ h)))

module _ (x n : ℕ) (xs : List ℕ) where
  -- the first n, and those behind them
  pub each_before : n ≤ length xs → list_all (λ y. eqb y x) (take n xs) ≡ true → EachIs xs 0 n x
  each_before h t = record { all = λ i low high. sym (get_or-take n xs i 0 high) ∙ each_of x (take n xs) i t (omega (arith, length-take-le n xs h)) }

  pub each_behind : list_all (λ y. eqb y x) (take (length xs - n) (drop n xs)) ≡ true → EachIs xs n (length xs) x
  each_behind t =
      record {
        all = λ i low high.
            let place : n + (i - n) ≡ i = omega arith in
            let size = length xs - n in
            let long = length-take-le size (drop n xs) (rw length-drop (omega arith)) in
            rw place at (sym (get_or-drop n xs (i - n) 0) ∙ sym (get_or-take size (drop n xs) (i - n) 0 (omega arith)) ∙ each_of x (take size (drop n xs)) (i - n) t (omega (arith, long)));
      }

-- the bytes in front
pub front_is : (out output : List ℕ) → starts_with eqb out output ≡ true → part 0 (length output) out ≡ output
unfolding part
front_is out output h = sym ((bytes_decides _ _).0 h)

-- a row that begins with the numbers, from a word on
pub numbers_in : (row : List ℕ) (from n : ℕ) (numbers : List ℕ) → starts_with eqb (take n (drop from row)) numbers ≡ true → SameNumbers row from numbers
numbers_in row from n numbers h =
    let words = take n (drop from row) in
    let e : numbers ≡ take (length numbers) words = (bytes_decides _ _).0 h in
    let short : length numbers ≤ n = omega (arith, ap length e, length-take (length numbers) words, length-take n (drop from row)) in
    record {
      all = λ i l. sym (get_or-drop from row i 0) ∙ sym (get_or-take n (drop from row) i 0 (omega (arith, short))) ∙ sym (get_or-take (length numbers) words i 0 l) ∙ ap (λ xs. get_or xs i 0) (sym e);
    }
