-- Laws of numbers that are read: digit by digit, and one leading +. Assumes nothing.
use Prim.Native.Nat.{ℕ, ◌+◌, ◌-◌, ◌*◌, ◌≤◌, ◌<◌}
use native.Mathlib.Numerals.{add-one}
use native.Mathlib.Omega.{arith}
use mathlib.Core.Path.{◌≡◌, refl, sym, ap, ◌∙◌}
use mathlib.Core.List.{List, [], ◌∷◌}
use mathlib.Core.Logic.{◌⊎◌, inl, inr}
use mathlib.Core.Bool.{Bool, true, false, cond, ◌&&◌, and-false}
use Rattle.std.specs.Prelude.{Option, None, Some}
use lib.Dec.{eqb, leb}
use lib.ListN.{length, take, drop, get_or, drop_of_length-le}
use lib.Seq.{drop-cons, take-length}
use borrow.Author.Tests.{le-leb, lt-leb, eqb-true, eqb-false, ne_eqb}
use Rattle.gfa_spec.specs.Bytes.{all, is_empty}
use Rattle.std.specs.List.{starts_with}
use Rattle.gfa_spec.specs.Decimal.{is_digit, value_from, largest64, is_numeral, unsigned, number_of}
use Rattle.scan.specs.Numbers.{numeral}
use Rattle.gfa_spec.proofs.Parts.{by_order}
use Rattle.gfa_spec.proofs.Tests.{by_test}

-- ---- digits

-- digits read one by one, after a number v
unfoldable pub scan : ℕ → List ℕ → Option ℕ
scan v [] = Some v
scan v (b ∷ bs) = cond (is_digit b && leb (v * 10 + (b - 48)) largest64) (scan (v * 10 + (b - 48)) bs) None

-- a further digit makes a number no smaller
value_grows : (n : ℕ) (bs : List ℕ) → n ≤ value_from n bs
unfolding value_from
value_grows n [] = omega arith
value_grows n (b ∷ bs) = omega (arith, value_grows (n * 10 + (b - 48)) bs)

-- what a string of digits reads as, after a number within 64 bits
abbrev whole : ℕ → List ℕ → Option ℕ
whole v ds = cond (all is_digit ds && leb (value_from v ds) largest64) (Some (value_from v ds)) None

-- read one by one, digits read as the whole
scan_whole : (v : ℕ) (ds : List ℕ) → v ≤ largest64 → scan v ds ≡ whole v ds
unfolding scan all value_from
scan_whole v [] h = rw (le-leb v largest64 h)
scan_whole v (b ∷ bs) h = go (is_digit b) refl (by_order (v * 10 + (b - 48)) largest64 inl inr) (scan_whole (v * 10 + (b - 48)) bs)
  where
    v' : ℕ
    v' = v * 10 + (b - 48)

    go : (t : Bool) → is_digit b ≡ t → (v' ≤ largest64) ⊎ (largest64 < v') → (v' ≤ largest64 → scan v' bs ≡ whole v' bs) → scan v (b ∷ bs) ≡ whole v (b ∷ bs)
    go false e o ih = rw e
    go true e (inl k) ih = rw (e, le-leb v' largest64 k) (ih k)
    go true e (inr k) ih = rw (e, lt-leb v' largest64 k, lt-leb (value_from v' bs) largest64 (omega (arith, value_grows v' bs)), and-false (all is_digit bs))

-- a string that is not empty
pub numeral_scan : (ds : List ℕ) → 0 < length ds → numeral ds ≡ scan 0 ds
unfolding numeral is_numeral is_empty largest64
numeral_scan [] h = absurd (omega arith)
numeral_scan (b ∷ bs) h = sym (scan_whole 0 (b ∷ bs) (omega arith))

-- a byte that is no digit
pub scan_other : (v b : ℕ) (bs : List ℕ) → (b < 48) ⊎ (57 < b) → scan v (b ∷ bs) ≡ None
unfolding scan is_digit
scan_other v b bs (inl h) = rw (lt-leb 48 b h)
scan_other v b bs (inr h) = rw (lt-leb b 57 h, and-false (leb 48 b))

-- a digit that makes the number too large
pub scan_large : (v b : ℕ) (bs : List ℕ) → 18446744073709551615 < v * 10 + (b - 48) → scan v (b ∷ bs) ≡ None
unfolding scan largest64
scan_large v b bs h = rw (lt-leb (v * 10 + (b - 48)) 18446744073709551615 h, and-false (is_digit b))

-- any other digit
pub scan_digit : (v b : ℕ) (bs : List ℕ) → 48 ≤ b → b ≤ 57 → v * 10 + (b - 48) ≤ 18446744073709551615 → scan v (b ∷ bs) ≡ scan (v * 10 + (b - 48)) bs
unfolding scan is_digit largest64
scan_digit v b bs l h k = rw (le-leb 48 b l, le-leb b 57 h, le-leb (v * 10 + (b - 48)) 18446744073709551615 k)

-- what reads as nothing is answered so
pub nothing_read : (t r : List ℕ) (v : ℕ) → numeral t ≡ scan v r → scan v r ≡ None → None ≡ numeral t
nothing_read t r v here e = sym (here ∙ e)

-- ---- the state of a loop over digits

-- The digits from i on, read after v, give what all of them give.
pub record Scanned (ds : List ℕ) (v i : ℕ) : Type 0 where
  pub rest : numeral ds ≡ scan v (drop i ds)

module _ {ds : List ℕ} where
  pub scanned_start : 0 < length ds → Scanned ds 0 0
  scanned_start h = record { rest = numeral_scan ds h }

  module _ {v i : ℕ} (s : Scanned ds v i) where
    module _ (h : i < length ds) where
      -- the next byte in sight
      pub next_digit : numeral ds ≡ scan v (get_or ds i 0 ∷ drop (i + 1) ds)
      next_digit = s.rest ∙ ap (λ (r : List ℕ). scan v r) (rw add-one (drop-cons ds i 0 h))

      -- it is no digit, below them or above them
      pub none_below : get_or ds i 0 < 48 → None ≡ numeral ds
      none_below k = nothing_read ds _ _ next_digit (scan_other _ _ _ (inl k))

      pub none_above : 57 < get_or ds i 0 → None ≡ numeral ds
      none_above k = nothing_read ds _ _ next_digit (scan_other _ _ _ (inr k))

      -- it makes the number too large
      pub scanned_large : 18446744073709551615 < v * 10 + (get_or ds i 0 - 48) → None ≡ numeral ds
      scanned_large k = nothing_read ds _ _ next_digit (scan_large _ _ _ k)

      pub scanned_more : 48 ≤ get_or ds i 0 → get_or ds i 0 ≤ 57 → v * 10 + (get_or ds i 0 - 48) ≤ 18446744073709551615 → Scanned ds (v * 10 + (get_or ds i 0 - 48)) (i + 1)
      scanned_more l m k = record { rest = next_digit ∙ scan_digit _ _ _ l m k }

    pub scanned_end : length ds ≤ i → Some v ≡ numeral ds
    unfolding scan
    scanned_end k = sym (s.rest ∙ rw (drop_of_length-le ds {i = i} k))

-- the empty string is no number
pub numeral_none : (ds : List ℕ) → length ds ≡ 0 → None ≡ numeral ds
unfolding numeral is_numeral is_empty
numeral_none [] h = refl
numeral_none (b ∷ bs) h = absurd (omega arith)

-- what a loop over digits goes on by
pub ruleset reading = (numeral_none, scanned_start, none_below, none_above, scanned_large, scanned_more, scanned_end)

-- ---- one leading +

-- whether a string begins with it
begins : (b : ℕ) (bs : List ℕ) → starts_with eqb (b ∷ bs) (43 ∷ []) ≡ eqb b 43
begins b bs = by_test (eqb b 43) (λ e. rw (eqb-true b 43 e) refl) (λ e. rw (e, ne_eqb 43 b (λ q. eqb-false b 43 e (sym q))) refl)

-- it is passed over
pub number_signed : (s : List ℕ) → starts_with eqb s (43 ∷ []) ≡ true → numeral (take (length s - 1) (drop 1 s)) ≡ number_of s
unfolding number_of unsigned numeral
number_signed [] h = cc
number_signed (b ∷ bs) h =
    let n : length (b ∷ bs) - 1 ≡ length bs = omega arith in
    rw (n, take-length, sym (begins b bs) ∙ h)

-- any other byte is not
pub number_plain : (s : List ℕ) → starts_with eqb s (43 ∷ []) ≡ false → numeral s ≡ number_of s
unfolding number_of unsigned numeral
number_plain [] h = refl
number_plain (b ∷ bs) h = rw (sym (begins b bs) ∙ h)
