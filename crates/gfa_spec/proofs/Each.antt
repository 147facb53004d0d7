-- A fact of each element of a list, and strings that lack a byte. Assumes nothing.
use Prim.Native.Nat.{ℕ, zero, suc, ◌<◌}
use native.Mathlib.Omega.{arith}
use mathlib.Core.Bool.{Bool, true, false, not}
use mathlib.Core.List.{List, [], ◌∷◌, ◌++◌, map}
use mathlib.Core.Path.{◌≡◌, refl}
use lib.Dec.{eqb}
use lib.ListN.{length}
use borrow.Author.Tests.{not-true}
use Rattle.gfa_spec.specs.Bytes.{same, any, all, keep, join, nth, distinct, Each}
use Rattle.gfa_spec.proofs.Tests.{by_test, and_left, and_right, and_both, or_left, or_right, same_sym, any_append}

-- each of two lists has P: each of the joined list has P
pub each_append : {A : Type 0} (P : A → Type 0) (xs ys : List A) → Each P xs → Each P ys → Each P (xs ++ ys)
each_append P [] ys h k = k
each_append P (x ∷ xs) ys h k = (h.0, each_append P xs ys h.1 k)

-- each of the joined list has P: each of the first has P
pub each_front : {A : Type 0} (P : A → Type 0) (xs ys : List A) → Each P (xs ++ ys) → Each P xs
each_front P [] ys h = tt
each_front P (x ∷ xs) ys h = (h.0, each_front P xs ys h.1)

-- each of each list has P: each of the joined list has P
pub each_join : {A : Type 0} (P : A → Type 0) (xss : List (List A)) → Each (Each P) xss → Each P (join xss)
unfolding join
each_join P [] h = tt
each_join P (xs ∷ xss) h = each_append P xs (join xss) h.0 (each_join P xss h.1)

-- each has P and each has Q: each has both
pub each_both : {A : Type 0} (P Q : A → Type 0) (xs : List A) → Each P xs → Each Q xs → Each (λ x. P x × Q x) xs
each_both P Q [] h k = tt
each_both P Q (x ∷ xs) h k = ((h.0, k.0), each_both P Q xs h.1 k.1)

-- each has P, which implies Q: each has Q
pub each_implies : {A : Type 0} {P Q : A → Type 0} → ((x : A) → P x → Q x) → (xs : List A) → Each P xs → Each Q xs
each_implies f [] h = tt
each_implies f (x ∷ xs) h = (f x h.0, each_implies f xs h.1)

-- what every element has, each has
pub each_always : {A : Type 0} {P : A → Type 0} → ((x : A) → P x) → (xs : List A) → Each P xs
each_always f [] = tt
each_always f (x ∷ xs) = (f x, each_always f xs)

-- each image has P: of each element the image has P
pub each_of_map : {A B : Type 0} (P : B → Type 0) (f : A → B) (xs : List A) → Each P (map f xs) → Each (λ x. P (f x)) xs
each_of_map P f [] h = tt
each_of_map P f (x ∷ xs) h = (h.0, each_of_map P f xs h.1)

-- of each element the image has P: each image has P
pub each_map : {A B : Type 0} (P : B → Type 0) (f : A → B) (xs : List A) → Each (λ x. P (f x)) xs → Each P (map f xs)
each_map P f [] h = tt
each_map P f (x ∷ xs) h = (h.0, each_map P f xs h.1)

-- where `all` passes, each element passes
pub all_each : {A : Type 0} (p : A → Bool) (xs : List A) → all p xs ≡ true → Each (λ x. p x ≡ true) xs
unfolding all
all_each p [] h = tt
all_each p (x ∷ xs) h = (and_left (p x) (all p xs) h, all_each p xs (and_right (p x) (all p xs) h))

-- where each element passes, `all` passes
pub each_all : {A : Type 0} (p : A → Bool) (xs : List A) → Each (λ x. p x ≡ true) xs → all p xs ≡ true
unfolding all
each_all p [] h = refl
each_all p (x ∷ xs) h = and_both (p x) (all p xs) h.0 (each_all p xs h.1)

-- where none passes, each fails
pub none_each : {A : Type 0} (p : A → Bool) (xs : List A) → any p xs ≡ false → Each (λ x. p x ≡ false) xs
unfolding any
none_each p [] h = tt
none_each p (x ∷ xs) h = (or_left (p x) (any p xs) h, none_each p xs (or_right (p x) (any p xs) h))

-- those that are kept have what each has
pub each_keep : {A : Type 0} (P : A → Type 0) (p : A → Bool) (xs : List A) → Each P xs → Each (λ x. (p x ≡ true) × P x) (keep p xs)
unfolding keep
each_keep P p [] h = tt
each_keep P p (x ∷ xs) h = by_test (p x) (λ e. rw e ((e, h.0), each_keep P p xs h.1)) (λ e. rw e (each_keep P p xs h.1))

-- the strings of a list without repetition are in none of its fronts
pub distinct_apart : (xs ys : List (List ℕ)) → distinct (xs ++ ys) ≡ true → Each (λ y. any (same y) xs ≡ false) ys
unfolding any distinct
distinct_apart [] ys h = each_always (λ y. refl) ys
distinct_apart (x ∷ xs) ys h =
    let new = not-true (any (same x) (xs ++ ys)) (and_left (not (any (same x) (xs ++ ys))) (distinct (xs ++ ys)) h) in
    let more = distinct_apart xs ys (and_right (not (any (same x) (xs ++ ys))) (distinct (xs ++ ys)) h) in
    let here = none_each (same x) ys (or_right (any (same x) xs) (any (same x) ys) (rw any_append at new)) in
    each_implies {P = λ y. (same x y ≡ false) × (any (same y) xs ≡ false)} (λ y e. rw (same_sym y x, e.0, e.1)) ys (each_both (λ y. same x y ≡ false) (λ y. any (same y) xs ≡ false) ys here more)

-- ---- element k

-- element k of a list's images is the image of element k
pub nth_map : {A B : Type 0} (f : A → B) (k : ℕ) (xs : List A) (d : A) → nth k (map f xs) (f d) ≡ f (nth k xs d)
unfolding nth
nth_map f k [] d = refl
nth_map f zero (x ∷ xs) d = refl
nth_map f (suc k) (x ∷ xs) d = nth_map f k xs d

-- element k of a list, with another list behind it
pub nth_front : {A : Type 0} (k : ℕ) (xs ys : List A) (d : A) → k < length xs → nth k (xs ++ ys) d ≡ nth k xs d
unfolding nth
nth_front k [] ys d l = absurd (omega arith)
nth_front zero (x ∷ xs) ys d l = refl
nth_front (suc k) (x ∷ xs) ys d l = nth_front k xs ys d (omega arith)

-- each element has P, and so has the default: element k has P
pub nth_each : {A : Type 0} (P : A → Type 0) (k : ℕ) (xs : List A) (d : A) → Each P xs → P d → P (nth k xs d)
unfolding nth
nth_each P k [] d h p = p
nth_each P zero (x ∷ xs) d h p = h.0
nth_each P (suc k) (x ∷ xs) d h p = nth_each P k xs d h.1 p

-- ---- strings that lack a byte

-- the string does not hold the byte b
abbrev pub Lacks : ℕ → List ℕ → Type 0
Lacks b s = Each (λ c. eqb c b ≡ false) s
