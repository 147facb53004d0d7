-- A new ID is none that is taken, and is made of plain bytes. Assumes nothing.
use Prim.Native.Nat.{ℕ, zero, suc, ◌+◌, ◌≤◌, ◌<◌, max}
use native.Mathlib.Nat.{add-zero, add-suc, suc-add}
use native.Mathlib.Omega.{arith}
use mathlib.Core.Bool.{Bool, true, false, not, ◌&&◌, ◌||◌, false≢true}
use mathlib.Core.List.{List, [], ◌∷◌, ◌++◌, map, append_cancel_left, tail-eq_of_cons-eq}
use Rattle.std.specs.Prelude.{Option, None, Some}
use Rattle.gfa_spec.proofs.Options.{Some-injective}
use mathlib.Core.Path.{◌≡◌, refl, sym, ◌∙◌}
use lib.Dec.{leb, ltb}
use lib.ListN.{length}
use borrow.Author.Tests.{ltb-true, lt-ltb, not-true}
use Rattle.gfa_spec.specs.Bytes.{bytes, same, is_empty, any, all, keep}
use Rattle.gfa_spec.specs.Decimal.{decimal, is_digit, largest64, number_of}
use Rattle.gfa_spec.specs.Reading.{Segment}
use Rattle.gfa_spec.proofs.Tests.{by_test, clash, and_left, and_right, and_both, refute, same_refl, same_equal, all_append, all_implies, all_in}
use Rattle.gfa_spec.proofs.Decimal.{decimal_injective, decimal_digits, decimal_some, number_decimal}
use Rattle.normalize_spec.specs.Folding.{largest_id, usable, is_plain, sanitized, base_name, suffixed, free_name, new_id, next_after}

-- ---- names with a suffix

-- the base with suffix k
unfoldable pub candidate : List ℕ → ℕ → List ℕ
candidate base k = base ++ (95 ∷ decimal k)

-- different suffixes make different names
candidate_injective : (base : List ℕ) (j k : ℕ) → candidate base j ≡ candidate base k → j ≡ k
unfolding candidate
candidate_injective base j k e = decimal_injective j k (tail-eq_of_cons-eq (append_cancel_left base (95 ∷ decimal j) (95 ∷ decimal k) e))

-- the strings other than x
without : List ℕ → List (List ℕ) → List (List ℕ)
without x xs = keep (λ y. not (same x y)) xs

-- a list without a string is not longer
without_shorter : (x : List ℕ) (xs : List (List ℕ)) → length (without x xs) ≤ length xs
unfolding without keep
without_shorter x [] = omega arith
without_shorter x (y ∷ ys) = by_test (same x y) (λ e. rw e (omega (arith, without_shorter x ys))) (λ e. rw e (omega (arith, without_shorter x ys)))

-- without a string of its own a list is shorter
without_less : (x : List ℕ) (xs : List (List ℕ)) → any (same x) xs ≡ true → length (without x xs) < length xs
unfolding without keep any
without_less x [] h = absurd (false≢true h)
without_less x (y ∷ ys) h =
    by_test (same x y)
    (λ e. rw e (omega (arith, without_shorter x ys)))
    (λ e. rw e (omega (arith, without_less x ys (rw e at h))))

-- another string stays
without_other : (x z : List ℕ) (xs : List (List ℕ)) → same x z ≡ false → any (same z) xs ≡ true → any (same z) (without x xs) ≡ true
unfolding without keep any
without_other x z [] d h = h
without_other x z (y ∷ ys) d h =
    by_test (same z y)
    (λ e. rw (← (same_equal z y e), d, same_refl z))
    (λ e. by_test (same x y) (λ f. rw f (without_other x z ys d (rw e at h))) (λ f. rw (f, e) (without_other x z ys d (rw e at h))))

-- different strings that all stand in a list are no more than it has
pub pigeonhole : (f : ℕ → List ℕ) → ((i j : ℕ) → f i ≡ f j → i ≡ j) → (s : ℕ) (xs : List (List ℕ)) → ((j : ℕ) → j < s → any (same (f j)) xs ≡ true)
    → s ≤ length xs
pigeonhole f inj zero xs h = omega arith
pigeonhole f inj (suc s) xs h =
    let less = without_less (f s) xs (h s (omega arith)) in
    let more = pigeonhole f inj s (without (f s) xs) (λ j l. without_other (f s) (f j) xs (refute (same (f s) (f j)) (λ q. omega (arith, inj s j (same_equal (f s) (f j) q)))) (h j (omega arith))) in
    omega arith

-- if the name that is found is taken, so is every name that was tried
suffixed_taken : (fuel : ℕ) (taken : List (List ℕ)) (base : List ℕ) (k : ℕ) → any (same (suffixed fuel taken base k)) taken ≡ true
    → (j : ℕ) → j < fuel → any (same (candidate base (k + j))) taken ≡ true
unfolding suffixed candidate
suffixed_taken zero taken base k h j l = absurd (omega arith)
suffixed_taken (suc fuel) taken base k h j l =
    by_test (any (same (candidate base k)) taken) (λ e. go j e (suffixed_taken fuel taken base (suc k) (rw (e, suffixed) at h)) l) (λ e. clash (rw (e, suffixed) at h) e)
  where
    go : (j : ℕ) → any (same (candidate base k)) taken ≡ true → ((i : ℕ) → i < fuel → any (same (candidate base (suc k + i))) taken ≡ true) → j < suc fuel
        → any (same (candidate base (k + j))) taken ≡ true
    go zero e more l = rw add-zero e
    go (suc i) e more l = rw (add-suc, ← suc-add) (more i (omega arith))

-- a name with the first free suffix is not taken
pub free_name_free : (taken : List (List ℕ)) (base : List ℕ) → any (same (free_name taken base)) taken ≡ false
unfolding free_name
free_name_free taken base =
    by_test (any (same base) taken)
    (λ e. rw e (refute (any (same (suffixed (suc (length taken)) taken base 1)) taken)
    (λ h. omega (
      arith,
      pigeonhole (λ j. candidate base (1 + j)) (λ i j q. omega (arith, candidate_injective base (1 + i) (1 + j) q)) (suc (length taken)) taken
          (suffixed_taken (suc (length taken)) taken base 1 h),
    ))))
    (λ e. rw e e)

-- ---- numbers

-- does the string read as a number below n?
unfoldable pub below : ℕ → List ℕ → Bool
below n x = elim (number_of x) as (λ _. Bool) [ None ↦ false | Some m ↦ ltb m n ]

-- a number m is below n where the test says so
pub below_number : (n m : ℕ) (x : List ℕ) → number_of x ≡ Some m → below n x ≡ ltb m n
unfolding below
below_number n m x e = rw (e, below)

-- what is below n is below the number after n
pub below_more : (n : ℕ) (x : List ℕ) (o : Option ℕ) → number_of x ≡ o → below n x ≡ true → below (suc n) x ≡ true
unfolding below
below_more n x None e h = absurd (false≢true (rw (e, below) at h))
below_more n x (Some m) e h = rw (e, below) (lt-ltb m (suc n) (omega (arith, ltb-true m n (rw (e, below) at h))))

-- a decimal above every number that is taken is not taken
decimal_free : (n : ℕ) (taken : List (List ℕ)) → n < largest64 → all (below n) taken ≡ true → any (same (decimal n)) taken ≡ false
decimal_free n taken l h =
    refute (any (same (decimal n)) taken)
    (λ i. omega (arith, ltb-true n n (sym (below_number n n (decimal n) (number_decimal n (omega arith))) ∙ all_in (below n) (decimal n) taken h i)))

-- a new ID is not taken, where every ID that is taken reads as a number below the next
pub new_id_free : (taken : List (List ℕ)) (name : List ℕ) (count : ℕ) (next : Option ℕ) → ((n : ℕ) → next ≡ Some n → all (below n) taken ≡ true)
    → any (same (new_id taken name count (usable next))) taken ≡ false
unfolding new_id usable
new_id_free taken name count None h = free_name_free taken (base_name name count)
new_id_free taken name count (Some n) h =
    by_test (ltb n largest64)
    (λ e. rw e (decimal_free n taken (ltb-true n largest64 e) (h n refl)))
    (λ e. rw e (free_name_free taken (base_name name count)))

-- the next number, where there is one, is one more than the number used
pub next_usable : (o : Option ℕ) (m : ℕ) → next_after (usable o) ≡ Some m → (n : ℕ) × (o ≡ Some n) × (n < largest64) × (m ≡ suc n)
unfolding next_after usable
next_usable None m e = let z : ◌≡◌ {A = ℕ} 0 1 = cc in absurd (omega arith)
next_usable (Some n) m e =
    by_test (ltb n largest64)
    (λ h. (n, refl, ltb-true n largest64 h, Some-injective m (suc n) (sym (rw h at e))))
    (λ h. let z : ◌≡◌ {A = ℕ} 0 1 = cc (rw h at e) in absurd (omega arith))

-- a number that may be used is the new ID
pub new_id_number : (taken : List (List ℕ)) (name : List ℕ) (count : ℕ) (o : Option ℕ) (n : ℕ) → o ≡ Some n → n < largest64
    → new_id taken name count (usable o) ≡ decimal n
unfolding new_id usable
new_id_number taken name count o n e l = rw (e, lt-ltb n largest64 l)

-- the largest ID is at least n, and every ID reads as a number of at most that
pub largest_bound : (n m : ℕ) (ss : List Segment) → largest_id n ss ≡ Some m → (n ≤ m) × (all (below (suc m)) (map (λ s. s.id) ss) ≡ true)
unfolding largest_id all
largest_bound n m [] h = (omega (arith, Some-injective n m h), refl)
largest_bound n m (s ∷ ss) h = go (λ k. largest_bound k m ss) (number_of s.id) refl
  where
    go : ((k : ℕ) → largest_id k ss ≡ Some m → (k ≤ m) × (all (below (suc m)) (map (λ s. s.id) ss) ≡ true)) → (o : Option ℕ) → number_of s.id ≡ o
        → (n ≤ m) × ((below (suc m) s.id && all (below (suc m)) (map (λ s. s.id) ss)) ≡ true)
    go more None e = let z : ◌≡◌ {A = ℕ} 0 1 = cc (rw (e, largest_id) at h) in absurd (omega arith)
    go more (Some k) e =
        let (l, a) = more (max n k) (rw (e, largest_id) at h) in
        (omega arith, and_both (below (suc m) s.id) (all (below (suc m)) (map (λ s. s.id) ss)) (below_number (suc m) k s.id e ∙ lt-ltb k (suc m) (omega arith)) a)

-- ---- the bytes of a new ID

-- plain bytes, at least one
unfoldable pub is_plain_name : List ℕ → Bool
is_plain_name id = not (is_empty id) && all is_plain id

-- a digit is plain
digit_plain : (b : ℕ) → is_digit b ≡ true → is_plain b ≡ true
unfolding is_plain
digit_plain b h = rw h (by_test (leb 65 b && leb b 90 || (leb 97 b && leb b 122)) (λ e. rw e) (λ e. rw e))

-- a number is written in plain bytes
decimal_plain : (n : ℕ) → all is_plain (decimal n) ≡ true
decimal_plain n = all_implies is_digit is_plain digit_plain (decimal n) (decimal_digits n)

-- a number can be a name
decimal_name : (n : ℕ) → is_plain_name (decimal n) ≡ true
unfolding is_plain_name
decimal_name n = rw (decimal_some n, decimal_plain n)

-- the byte _ is plain
underscore_plain : is_plain 95 ≡ true
unfolding is_plain is_digit
underscore_plain = refl

-- every byte of a sanitized name is plain
sanitized_plain : (name : List ℕ) → all is_plain (sanitized name) ≡ true
unfolding sanitized all
sanitized_plain [] = refl
sanitized_plain (b ∷ bs) = by_test (is_plain b) (λ e. rw (e, e) (sanitized_plain bs)) (λ e. rw (e, underscore_plain) (sanitized_plain bs))

-- two strings are empty together where each is
empty_append : (xs ys : List ℕ) → is_empty (xs ++ ys) ≡ (is_empty xs && is_empty ys)
unfolding is_empty
empty_append [] ys = refl
empty_append (x ∷ xs) ys = refl

-- plain bytes around a name are a name
name_behind : (xs ys : List ℕ) → all is_plain xs ≡ true → is_plain_name ys ≡ true → is_plain_name (xs ++ ys) ≡ true
unfolding is_plain_name
name_behind xs ys p h =
    let q = and_right (not (is_empty ys)) (all is_plain ys) h in
    let e = not-true (is_empty ys) (and_left (not (is_empty ys)) (all is_plain ys) h) in
    rw (empty_append, all_append, e, p, q) (by_test (is_empty xs) (λ i. rw i) (λ i. rw i))

-- a name with plain bytes behind it is a name
name_before : (xs ys : List ℕ) → is_plain_name xs ≡ true → all is_plain ys ≡ true → is_plain_name (xs ++ ys) ≡ true
unfolding is_plain_name
name_before xs ys h q =
    let p = and_right (not (is_empty xs)) (all is_plain xs) h in
    let e = not-true (is_empty xs) (and_left (not (is_empty xs)) (all is_plain xs) h) in
    rw (empty_append, all_append, e, p, q)

-- the base of a new name is a name
base_name_plain : (name : List ℕ) (count : ℕ) → is_plain_name (base_name name count) ≡ true
unfolding base_name
base_name_plain name count = name_behind (sanitized name) (bytes "_selfloop_run" ++ decimal count) (sanitized_plain name) (name_behind (bytes "_selfloop_run") (decimal count) (unfold bytes all is_plain is_digit in refl) (decimal_name count))

-- a name with a suffix is a name
suffixed_name : (fuel : ℕ) (taken : List (List ℕ)) (base : List ℕ) (k : ℕ) → is_plain_name base ≡ true → is_plain_name (suffixed fuel taken base k) ≡ true
unfolding suffixed
suffixed_name zero taken base k h = h
suffixed_name (suc fuel) taken base k h =
    by_test (any (same (base ++ (95 ∷ decimal k))) taken)
    (λ e. rw (e, suffixed) (suffixed_name fuel taken base (suc k) h))
    (λ e. rw (e, suffixed) (name_before base (95 ∷ decimal k) h (unfold all in rw underscore_plain (decimal_plain k))))

-- a free name is a name
free_name_name : (taken : List (List ℕ)) (base : List ℕ) → is_plain_name base ≡ true → is_plain_name (free_name taken base) ≡ true
unfolding free_name
free_name_name taken base h = by_test (any (same base) taken) (λ e. rw e (suffixed_name (suc (length taken)) taken base 1 h)) (λ e. rw e h)

-- a new ID is made of A-Z a-z 0-9 _ . : #, and is not empty
pub new_id_name : (taken : List (List ℕ)) (name : List ℕ) (count : ℕ) (next : Option ℕ) → is_plain_name (new_id taken name count next) ≡ true
unfolding new_id
new_id_name taken name count None = free_name_name taken (base_name name count) (base_name_plain name count)
new_id_name taken name count (Some n) = decimal_name n
