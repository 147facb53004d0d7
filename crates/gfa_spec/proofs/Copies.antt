-- Laws of copies of an element and of a repeated string. Assumes nothing.
use Prim.Native.Nat.{ℕ, zero, suc, ◌≤◌}
use native.Mathlib.Omega.{arith}
use mathlib.Core.Bool.{Bool, true, false}
use mathlib.Core.List.{List, [], ◌∷◌, ◌++◌, map, reverse, append-nil, append_assoc, map-append, reverse-append}
use mathlib.Core.Path.{◌≡◌, refl, sym, ap, ◌∙◌}
use lib.Dec.{eqb}
use lib.ListN.{length, length-append}
use Rattle.gfa_spec.specs.Bytes.{same, star, all, join, copies, repeat, Each}
use Rattle.gfa_spec.specs.Sequences.{reverse_complement, oriented}
use Rattle.gfa_spec.proofs.Tests.{by_test, refute, same_equal, all_append}

-- ---- copies

-- n copies are n
pub length_copies : {A : Type 0} (n : ℕ) (a : A) → length (copies n a) ≡ n
unfolding copies
length_copies zero a = refl
length_copies (suc n) a = ap suc (length_copies n a)

-- a copied byte string, joined, is the repeated one
pub join_copies : (n : ℕ) (seq : List ℕ) → join (copies n seq) ≡ repeat n seq
unfolding copies join repeat
join_copies zero seq = refl
join_copies (suc n) seq = ap (λ (l : List ℕ). seq ++ l) (join_copies n seq)

-- the images of copies are copies of the image
pub map_copies : {A B : Type 0} (f : A → B) (n : ℕ) (a : A) → map f (copies n a) ≡ copies n (f a)
unfolding copies
map_copies f zero a = refl
map_copies f (suc n) a = ap (λ l. f a ∷ l) (map_copies f n a)

-- each copy has what the element has
pub each_copies : {A : Type 0} (P : A → Type 0) (n : ℕ) (a : A) → P a → Each P (copies n a)
unfolding copies
each_copies P zero a h = tt
each_copies P (suc n) a h = (h, each_copies P n a h)

-- two lists of lists, joined, are joined one after the other
pub join_append : {A : Type 0} (xs ys : List (List A)) → join (xs ++ ys) ≡ join xs ++ join ys
unfolding join
join_append [] ys = refl
join_append (x ∷ xs) ys = rw (join_append xs ys, append_assoc)

-- ---- repeated sequences

-- a sequence behind its repetition may as well stand before it
repeat_behind : (n : ℕ) (seq : List ℕ) → repeat n seq ++ seq ≡ seq ++ repeat n seq
unfolding repeat
repeat_behind zero seq = sym (append-nil seq)
repeat_behind (suc n) seq = append_assoc seq (repeat n seq) seq ∙ ap (λ (l : List ℕ). seq ++ l) (repeat_behind n seq)

-- a repeated sequence, reversed, is the reversed one repeated
pub repeat_reverse : (n : ℕ) (seq : List ℕ) → reverse (repeat n seq) ≡ repeat n (reverse seq)
unfolding repeat
repeat_reverse zero seq = refl
repeat_reverse (suc n) seq = reverse-append seq (repeat n seq) ∙ ap (λ (l : List ℕ). l ++ reverse seq) (repeat_reverse n seq) ∙ repeat_behind n (reverse seq)

-- the same for any function of bytes
pub repeat_map : (f : ℕ → ℕ) (n : ℕ) (seq : List ℕ) → map f (repeat n seq) ≡ repeat n (map f seq)
unfolding repeat
repeat_map f zero seq = refl
repeat_map f (suc n) seq = map-append f seq (repeat n seq) ∙ ap (λ (l : List ℕ). map f seq ++ l) (repeat_map f n seq)

-- whatever the complement of a byte is
pub repeat_flip : (f : ℕ → ℕ) (n : ℕ) (seq : List ℕ) → map f (reverse (repeat n seq)) ≡ repeat n (map f (reverse seq))
repeat_flip f n seq = ap (map f) (repeat_reverse n seq) ∙ repeat_map f n (reverse seq)

-- a repeated sequence, read in an orientation, is the one so read, repeated
pub repeat_oriented : (comp : ℕ → ℕ) (o n : ℕ) (seq : List ℕ) → oriented comp o (repeat n seq) ≡ repeat n (oriented comp o seq)
unfolding oriented reverse_complement
repeat_oriented comp o n seq = by_test (eqb o 45) (λ e. rw e (repeat_flip comp n seq)) (λ e. rw e)

-- nothing, repeated, is nothing
repeat_empty : (n : ℕ) → repeat n [] ≡ []
unfolding repeat
repeat_empty zero = refl
repeat_empty (suc n) = repeat_empty n

-- a sequence with a byte, repeated twice or more, is not one byte
repeat_long : (b : ℕ) (bs : List ℕ) (n : ℕ) → repeat (suc (suc n)) (b ∷ bs) ≡ star → ⊥
unfolding repeat star
repeat_long b bs n e = omega (arith, simp length-append at (ap length e))

-- what each byte of a sequence has, each byte of the repeated one has
pub repeat_all : (p : ℕ → Bool) (n : ℕ) (seq : List ℕ) → all p seq ≡ true → all p (repeat n seq) ≡ true
unfolding repeat
repeat_all p zero seq h = unfold all in refl
repeat_all p (suc n) seq h = rw (all_append, h) (repeat_all p n seq h)

-- a sequence repeated twice or more is not `*`
pub repeat_explicit : (n : ℕ) (seq : List ℕ) → 2 ≤ n → same (repeat n seq) star ≡ false
repeat_explicit zero seq h = absurd (omega arith)
repeat_explicit (suc zero) seq h = absurd (omega arith)
repeat_explicit (suc (suc n)) [] h = rw repeat_empty (unfold same star in refl)
repeat_explicit (suc (suc n)) (b ∷ bs) h = refute (same (repeat (suc (suc n)) (b ∷ bs)) star) (λ q. repeat_long b bs n (same_equal (repeat (suc (suc n)) (b ∷ bs)) star q))
