-- Tests and counts over lists. Assumes nothing.
use mathlib.Core.Bool.{Bool, true, false, ◌&&◌, ◌||◌, and-false}
use mathlib.Core.List.{List, [], ◌∷◌}
use mathlib.Core.Path.{◌≡◌, refl, ◌∙◌}
use Rattle.gfa_spec.specs.Bytes.{any}
use Rattle.gfa_spec.proofs.Tests.{by_test}

module _ {A : Type 0} where
  -- tests that agree at each element
  pub any_alike : {p q : A → Bool} → ((x : A) → p x ≡ q x) → (xs : List A) → any p xs ≡ any q xs
  unfolding any
  any_alike e [] = refl
  any_alike e (x ∷ xs) = rw (e x, any_alike e xs)

  -- a test that never passes
  pub any_never : {p : A → Bool} → ((x : A) → p x ≡ false) → (xs : List A) → any p xs ≡ false
  unfolding any
  any_never e [] = refl
  any_never e (x ∷ xs) = rw (e x) (any_never e xs)

  -- either of two tests
  pub any_either : (p q : A → Bool) (xs : List A) → any (λ x. p x || q x) xs ≡ (any p xs || any q xs)
  unfolding any
  any_either p q [] = refl
  any_either p q (x ∷ xs) =
      by_test (p x)
      (λ e. rw e)
      (λ e. rw e (by_test (q x) (λ f. rw f (by_test (any p xs) (λ g. rw g) (λ g. rw g))) (λ f. rw f (any_either p q xs))))

  -- a test that all share
  pub any_shared : (c : Bool) (p : A → Bool) (xs : List A) → any (λ x. c && p x) xs ≡ (c && any p xs)
  any_shared true p xs = refl
  any_shared false p xs = any_never (λ x. refl) xs

  -- the order of two searches
  pub any_swap : {B : Type 0} (p : A → Bool) (q : A → B → Bool) (xs : List A) (ys : List B) → any (λ x. p x && any (q x) ys) xs ≡ any (λ y. any (λ x. p x && q x y) xs) ys
  unfolding any
  any_swap p q xs [] = any_never (λ x. and-false (p x)) xs
  any_swap p q xs (y ∷ ys) =
      any_alike (λ x. spread (p x) (q x y) (any (q x) ys)) xs
      ∙ any_either (λ x. p x && q x y) (λ x. p x && any (q x) ys) xs
      ∙ rw (any_swap p q xs ys)
    where
      spread : (a b c : Bool) → (a && (b || c)) ≡ ((a && b) || (a && c))
      spread true b c = refl
      spread false b c = refl
