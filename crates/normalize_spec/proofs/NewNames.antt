-- The name of a new segment is made of its unit's name, its run length and its suffix in one way only: so such names are compared by
-- these three. Assumes nothing.
use Prim.Native.Nat.{ℕ, zero, suc}
use native.Mathlib.Omega.{arith}
use mathlib.Core.Bool.{Bool, true, false, ◌||◌, or-true, true≢false}
use mathlib.Core.List.{List, [], ◌∷◌, ◌++◌, reverse, append_assoc, append_cancel_left, reverse-append, reverse-cons, reverse-reverse}
use mathlib.Core.Path.{◌≡◌, refl, sym, ap, ◌∙◌}
use lib.Dec.{eqb}
use Rattle.gfa_spec.specs.Bytes.{bytes, all}
use Rattle.gfa_spec.specs.Decimal.{decimal, is_digit}
use Rattle.gfa_spec.proofs.Tests.{all_append, all_cons, cons_all, all_implies}
use Rattle.gfa_spec.proofs.Decimal.{decimal_injective, decimal_digits}
use Rattle.normalize_spec.specs.Folding.{sanitized, base_name}
use Rattle.normalize_spec.specs.NewNames.{suffix, new_name, name_tail}

-- ---- a front of bytes that pass a test

-- the list is empty, or begins with a byte that fails
abbrev Stops : (ℕ → Bool) → List ℕ → Type 0
Stops p [] = Unit {0}
Stops p (b ∷ bs) = p b ≡ false

module _ (p : ℕ → Bool) where
  -- a byte that passes is not where a list stops
  not_there : (y : ℕ) (b s t : List ℕ) → p y ≡ true → Stops p s → s ≡ y ∷ (b ++ t) → ⊥
  not_there y b [] t h k e = let z : ◌≡◌ {A = ℕ} 0 1 = cc in omega arith
  not_there y b (x ∷ s) t h k e =
      let same : x ≡ y = cc in
      true≢false (sym h ∙ ap p (sym same) ∙ k)

  -- bytes that pass, up to one that fails: equal lists have equal fronts and equal rests
  front_same : (a b s t : List ℕ) → all p a ≡ true → all p b ≡ true → Stops p s → Stops p t → a ++ s ≡ b ++ t → (a ≡ b) × (s ≡ t)
  front_same [] [] s t f g k l e = (refl, e)
  front_same [] (y ∷ b) s t f g k l e = absurd (not_there y b s t (all_cons p y b g).0 k e)
  front_same (x ∷ a) [] s t f g k l e = absurd (not_there x a t s (all_cons p x a f).0 l (sym e))
  front_same (x ∷ a) (y ∷ b) s t f g k l e =
      let first : x ≡ y = cc in
      let rest : a ++ s ≡ b ++ t = cc in
      let (same, left) = front_same a b s t (all_cons p x a f).1 (all_cons p y b g).1 k l rest in
      (cc, left)

  -- what each byte passes, each byte of the reversed list passes
  all_reverse : (l : List ℕ) → all p l ≡ true → all p (reverse l) ≡ true
  all_reverse [] h = h
  all_reverse (x ∷ l) h = rw (reverse-cons x l, all_append, all_reverse l (all_cons p x l h).1) (cons_all p x [] (all_cons p x l h).0 (unfold all in refl))

-- ---- names

-- what stands behind `_selfloop_run`
tail_of : ℕ → ℕ → List ℕ
tail_of count k = decimal count ++ suffix k

-- a digit or `_`
is_tail : ℕ → Bool
is_tail b = is_digit b || eqb b 95

-- its bytes are digits and `_`
suffix_tail : (k : ℕ) → all is_tail (suffix k) ≡ true
unfolding suffix is_tail
suffix_tail zero = unfold all in refl
suffix_tail (suc k) = cons_all is_tail 95 (decimal (suc k)) (or-true (is_digit 95)) (all_implies is_digit is_tail (λ b h. rw h) (decimal (suc k)) (decimal_digits (suc k)))

tail_bytes : (count k : ℕ) → all is_tail (tail_of count k) ≡ true
unfolding tail_of is_tail
tail_bytes count k = rw (all_append, all_implies is_digit is_tail (λ b h. rw h) (decimal count) (decimal_digits count)) (suffix_tail k)

-- a suffix stops the digits
suffix_stops : (k : ℕ) → Stops is_digit (suffix k)
unfolding suffix is_digit
suffix_stops zero = tt
suffix_stops (suc k) = refl

-- equal suffixes are of one number
suffix_same : (k l : ℕ) → suffix k ≡ suffix l → k ≡ l
unfolding suffix
suffix_same zero zero e = refl
suffix_same zero (suc l) e = let z : ◌≡◌ {A = ℕ} 0 1 = cc in absurd (omega arith)
suffix_same (suc k) zero e = let z : ◌≡◌ {A = ℕ} 0 1 = cc in absurd (omega arith)
suffix_same (suc k) (suc l) e =
    let digits : decimal (suc k) ≡ decimal (suc l) = cc in
    decimal_injective (suc k) (suc l) digits

-- equal tails are of one run length and one suffix
tail_same : (c d k l : ℕ) → tail_of c k ≡ tail_of d l → (c ≡ d) × (k ≡ l)
unfolding tail_of
tail_same c d k l e =
    let (digits, rest) = front_same is_digit (decimal c) (decimal d) (suffix k) (suffix l) (decimal_digits c) (decimal_digits d) (suffix_stops k) (suffix_stops l) e in
    (decimal_injective c d digits, suffix_same k l rest)

-- the word between, reversed, and what stands before it
word : List ℕ
word = bytes "_selfloop_run"

word_stops : (x : List ℕ) → Stops is_tail (reverse word ++ x)
unfolding word bytes is_tail is_digit
word_stops x = refl

-- a name, reversed
name_reversed : (x t : List ℕ) → reverse (x ++ (word ++ t)) ≡ reverse t ++ (reverse word ++ reverse x)
name_reversed x t = rw (reverse-append, reverse-append, append_assoc)

-- a name by the unit's and what stands behind it
pub name_parts : (unit : List ℕ) (count k : ℕ) → new_name unit count k ≡ sanitized unit ++ name_tail count k
unfolding new_name base_name name_tail
name_parts unit count k = rw (append_assoc, append_assoc)

-- Equal names of new segments are of equal sanitized units, run lengths and suffixes.
pub name_same : (u v : List ℕ) (c d k l : ℕ) → new_name u c k ≡ new_name v d l → (sanitized u ≡ sanitized v) × (c ≡ d) × (k ≡ l)
unfolding name_tail tail_of word
name_same u v c d k l e =
    let back = sym (name_reversed (sanitized u) (tail_of c k)) ∙ ap reverse (sym (name_parts u c k) ∙ e ∙ name_parts v d l) ∙ name_reversed (sanitized v) (tail_of d l) in
    let (tails, rest) =
    front_same is_tail (reverse (tail_of c k)) (reverse (tail_of d l)) (reverse word ++ reverse (sanitized u)) (reverse word ++ reverse (sanitized v))
    (all_reverse is_tail (tail_of c k) (tail_bytes c k)) (all_reverse is_tail (tail_of d l) (tail_bytes d l)) (word_stops (reverse (sanitized u))) (word_stops (reverse (sanitized v))) back in
    let units = append_cancel_left (reverse word) (reverse (sanitized u)) (reverse (sanitized v)) rest in
    let same-unit : sanitized u ≡ sanitized v = sym (reverse-reverse (sanitized u)) ∙ ap reverse units ∙ reverse-reverse (sanitized v) in
    let same-tail : tail_of c k ≡ tail_of d l = sym (reverse-reverse (tail_of c k)) ∙ ap reverse tails ∙ reverse-reverse (tail_of d l) in
    let (counts, suffixes) = tail_same c d k l same-tail in
    (same-unit, counts, suffixes)
