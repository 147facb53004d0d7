-- Laws of Boolean tests on byte strings and lists. Assumes nothing.
use Prim.Native.Nat.{ℕ}
use mathlib.Core.Bool.{Bool, true, false, cond, not, ◌&&◌, ◌||◌, true≢false, false≢true}
use mathlib.Core.List.{List, [], ◌∷◌, ◌++◌}
use mathlib.Core.Path.{◌≡◌, refl, sym, ◌∙◌}
use lib.Dec.{eqb}
use borrow.Author.Tests.{eqb-true, eq-eqb, not-true}
use Rattle.gfa_spec.specs.Bytes.{same, any, all, keep, distinct}

-- ---- Booleans

-- a function of a choice is a choice
pub cond_ap : {A B : Type 0} (f : A → B) (t : Bool) (x y : A) → f (cond t x y) ≡ cond t (f x) (f y)
cond_ap f true x y = refl
cond_ap f false x y = refl

-- either the test passes or it fails
pub by_test : {P : Type 0} (b : Bool) → (b ≡ true → P) → (b ≡ false → P) → P
by_test true pass fail = pass refl
by_test false pass fail = fail refl

-- no test both passes and fails
pub clash : {P : Type 0} {b : Bool} → b ≡ true → b ≡ false → P
clash t f = absurd (true≢false (sym t ∙ f))

-- both tests pass: the first does
pub and_left : (a b : Bool) → (a && b) ≡ true → a ≡ true
and_left true b h = refl
and_left false b h = h

-- both tests pass: the second does
pub and_right : (a b : Bool) → (a && b) ≡ true → b ≡ true
and_right true b h = h
and_right false b h = absurd (false≢true h)

-- both tests pass: each does
pub both : {a b : Bool} → (a && b) ≡ true → (a ≡ true) × (b ≡ true)
both {a} {b} h = (and_left a b h, and_right a b h)

-- each passes: both do
pub and_both : (a b : Bool) → a ≡ true → b ≡ true → (a && b) ≡ true
and_both a b p q = rw (p, q)

-- neither test passes: the first does not
pub or_left : (a b : Bool) → (a || b) ≡ false → a ≡ false
or_left true b h = h
or_left false b h = refl

-- neither test passes: the second does not
pub or_right : (a b : Bool) → (a || b) ≡ false → b ≡ false
or_right true b h = absurd (true≢false h)
or_right false b h = h

-- what follows from either test follows from one of them
pub or_either : {P : Type 0} (a b : Bool) → (a || b) ≡ true → (a ≡ true → P) → (b ≡ true → P) → P
or_either true b h f g = f refl
or_either false b h f g = g h

-- two tests agree if each passes where the other does
pub agree : (a b : Bool) → (a ≡ true → b ≡ true) → (b ≡ true → a ≡ true) → a ≡ b
agree true b f g = sym (f refl)
agree false true f g = g refl
agree false false f g = refl

-- a test that cannot pass fails
pub refute : (b : Bool) → (b ≡ true → ⊥) → b ≡ false
refute true h = absurd (h refl)
refute false h = refl

-- ---- equality of byte strings

-- a byte string is the same as itself
pub same_refl : (xs : List ℕ) → same xs xs ≡ true
unfolding same
same_refl [] = refl
same_refl (x ∷ xs) = rw (eq-eqb x x refl) (same_refl xs)

-- byte strings that pass the test are equal
pub same_equal : (xs ys : List ℕ) → same xs ys ≡ true → xs ≡ ys
unfolding same
same_equal [] [] h = refl
same_equal [] (y ∷ ys) h = absurd (false≢true h)
same_equal (x ∷ xs) [] h = absurd (false≢true h)
same_equal (x ∷ xs) (y ∷ ys) h = cc (eqb-true x y (and_left (eqb x y) (same xs ys) h), same_equal xs ys (and_right (eqb x y) (same xs ys) h))

-- equal byte strings pass the test
pub equal_same : (xs ys : List ℕ) → xs ≡ ys → same xs ys ≡ true
equal_same xs ys e = rw e (same_refl ys)

-- the test is symmetric
pub same_sym : (xs ys : List ℕ) → same xs ys ≡ same ys xs
same_sym xs ys = agree (same xs ys) (same ys xs) (λ h. equal_same ys xs (sym (same_equal xs ys h))) (λ h. equal_same xs ys (sym (same_equal ys xs h)))

-- ---- tests on lists

-- some element of two lists passes where one of either does
pub any_append : {A : Type 0} (p : A → Bool) (xs ys : List A) → any p (xs ++ ys) ≡ (any p xs || any p ys)
unfolding any
any_append p [] ys = refl
any_append p (x ∷ xs) ys = by_test (p x) (λ e. rw e) (λ e. rw e (any_append p xs ys))

-- each element of two lists passes where each of both does
pub all_append : {A : Type 0} (p : A → Bool) (xs ys : List A) → all p (xs ++ ys) ≡ (all p xs && all p ys)
unfolding all
all_append p [] ys = refl
all_append p (x ∷ xs) ys = by_test (p x) (λ e. rw e (all_append p xs ys)) (λ e. rw e)

-- each passes: the first does, and each behind it
pub all_cons : {A : Type 0} (p : A → Bool) (x : A) (xs : List A) → all p (x ∷ xs) ≡ true → (p x ≡ true) × (all p xs ≡ true)
unfolding all
all_cons p x xs h = both h

-- and the other way round
pub cons_all : {A : Type 0} (p : A → Bool) (x : A) (xs : List A) → p x ≡ true → all p xs ≡ true → all p (x ∷ xs) ≡ true
unfolding all
cons_all p x xs h hs = and_both (p x) (all p xs) h hs

-- each passes the looser test
pub all_implies : {A : Type 0} (p q : A → Bool) → ((x : A) → p x ≡ true → q x ≡ true) → (xs : List A) → all p xs ≡ true → all q xs ≡ true
unfolding all
all_implies p q f [] h = refl
all_implies p q f (x ∷ xs) h = and_both (q x) (all q xs) (f x (and_left (p x) (all p xs) h)) (all_implies p q f xs (and_right (p x) (all p xs) h))

-- some passes the looser test
pub any_implies : {A : Type 0} (p q : A → Bool) → ((x : A) → p x ≡ true → q x ≡ true) → (xs : List A) → any p xs ≡ true → any q xs ≡ true
unfolding any
any_implies p q f [] h = h
any_implies p q f (x ∷ xs) h = by_test (p x) (λ e. rw (f x e)) (λ e. by_test (q x) (λ d. rw d) (λ d. rw d (any_implies p q f xs (rw e at h))))

-- a kept element passes both tests
pub any_keep : {A : Type 0} (p q : A → Bool) (xs : List A) → any p (keep q xs) ≡ any (λ x. q x && p x) xs
unfolding any keep
any_keep p q [] = refl
any_keep p q (x ∷ xs) = by_test (q x) (λ e. rw (e, any_keep p q xs)) (λ e. rw (e, any_keep p q xs))

-- a byte string in the list has what each of them has
pub all_in : (p : List ℕ → Bool) (x : List ℕ) (xs : List (List ℕ)) → all p xs ≡ true → any (same x) xs ≡ true → p x ≡ true
unfolding all any
all_in p x [] h i = absurd (false≢true i)
all_in p x (y ∷ ys) h i =
    by_test (same x y)
    (λ e. rw (same_equal x y e) (and_left (p y) (all p ys) h))
    (λ e. all_in p x ys (and_right (p y) (all p ys) h) (rw e at i))

-- ---- lists without repetition

-- none of the second list stands in the first
unfoldable pub apart : List (List ℕ) → List (List ℕ) → Bool
apart xs ys = all (λ y. not (any (same y) xs)) ys

-- what is apart from a list is apart from its tail
apart_tail : (x : List ℕ) (xs ys : List (List ℕ)) → apart (x ∷ xs) ys ≡ true → apart xs ys ≡ true
unfolding apart any
apart_tail x xs ys h =
    all_implies (λ y. not (same y x || any (same y) xs)) (λ y. not (any (same y) xs))
    (λ y q. rw (or_right (same y x) (any (same y) xs) (not-true (same y x || any (same y) xs) q))) ys h

-- a string of the first list is not in the second
pub apart_absent : (x : List ℕ) (xs ys : List (List ℕ)) → apart xs ys ≡ true → any (same x) xs ≡ true → any (same x) ys ≡ false
unfolding apart
apart_absent x xs ys h i = refute (any (same x) ys) (λ j. clash i (not-true (any (same x) xs) (all_in (λ y. not (any (same y) xs)) x ys h j)))

-- two lists without repetition, apart from each other, make one
pub distinct_append : (xs ys : List (List ℕ)) → distinct xs ≡ true → distinct ys ≡ true → apart xs ys ≡ true → distinct (xs ++ ys) ≡ true
unfolding distinct
distinct_append [] ys p q a = q
distinct_append (x ∷ xs) ys p q a =
    rw (any_append (same x) xs ys, not-true (any (same x) xs) (and_left (not (any (same x) xs)) (distinct xs) p), apart_absent x (x ∷ xs) ys a (unfold any in rw same_refl))
    (distinct_append xs ys (and_right (not (any (same x) xs)) (distinct xs) p) q (apart_tail x xs ys a))
