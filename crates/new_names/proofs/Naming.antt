-- Laws of new names: how long a number and the tail of a name are, what a buffer holds of them, and how names are summed and compared. Assumes nothing.
use Prim.Native.Nat.{ℕ, zero, suc, ◌+◌, ◌*◌, ◌/◌, ◌≤◌, ◌<◌}
use native.Mathlib.Omega.{arith}
use mathlib.Core.Bool.{Bool, true, false, ◌&&◌}
use mathlib.Core.List.{List, [], ◌∷◌, ◌++◌, append_assoc}
use mathlib.Core.Path.{◌≡◌, refl, sym, ap, ◌∙◌}
use lib.Dec.{eqb}
use lib.ListN.{length, take, drop, length-append, length-take, take-append-drop}
use lib.Seq.{take_at, length-take-le}
use Rattle.gfa_spec.specs.Bytes.{bytes, same}
use Rattle.gfa_spec.specs.Decimal.{decimal}
use Rattle.gfa_spec.specs.Sums.{sum_from, name_sum}
use Rattle.gfa_spec.proofs.Comparing.{same_length}
use Rattle.gfa_spec.proofs.Parts.{by_order}
use Rattle.gfa_spec.proofs.Sums.{sum_append}
use Rattle.gfa_spec.proofs.Tests.{by_test, same_sym}
use Rattle.normalize_spec.specs.Folding.{sanitized}
use Rattle.normalize_spec.specs.NewNames.{suffix, new_name, name_tail}
use Rattle.normalize_spec.proofs.NewNames.{name_parts}
use Rattle.writers.specs.declared.writer.Writer.{Writer}
use Rattle.writers.specs.Writers.{Wrote, Starts, Puts}
use Rattle.writers.proofs.Digits.{decimal_small, decimal_more}
use Rattle.writers.proofs.Writing.{keeps, written}
use Rattle.new_names.proofs.Sanitizing.{length_sanitized}

-- ---- lengths

-- 10 to the power d
tens : ℕ → ℕ
tens zero = 1
tens (suc d) = 10 * tens d

-- a number below 10 to the power d + 1 has at most d + 1 digits
digits_few : (d n : ℕ) → n < tens (suc d) → length (decimal n) ≤ suc d
unfolding tens
digits_few zero n h = rw (decimal_small n (omega arith)) (omega arith)
digits_few (suc d) n h = by_order 10 n (long (digits_few d (n / 10))) short
  where
    short : n < 10 → length (decimal n) ≤ suc (suc d)
    short s = rw (decimal_small n s) (omega arith)

    long : (n / 10 < tens (suc d) → length (decimal (n / 10)) ≤ suc d) → 10 ≤ n → length (decimal n) ≤ suc (suc d)
    long ih l = rw (decimal_more n l, length-append) (omega (arith, ih (omega arith)))

-- a number of 64 bits has at most 20 digits
pub decimal_short : (n : ℕ) → n ≤ 18446744073709551615 → length (decimal n) ≤ 20
unfolding tens
decimal_short n h = digits_few 19 n (omega arith)

-- a suffix of 64 bits has at most 21 bytes
suffix_short : (k : ℕ) → k ≤ 18446744073709551615 → length (suffix k) ≤ 21
unfolding suffix
suffix_short zero h = omega arith
suffix_short (suc k) h = omega (arith, decimal_short (suc k) h)

-- what stands in a name behind the unit's has at most 54 bytes
pub tail_short : (count k : ℕ) → count ≤ 18446744073709551615 → k ≤ 18446744073709551615 → length (name_tail count k) ≤ 54
unfolding name_tail bytes
tail_short count k h l = simp length-append (omega (arith, decimal_short count h, suffix_short k l))

-- a number has a digit
digit_some : (n : ℕ) → 1 ≤ length (decimal n)
digit_some n = by_order 10 n (λ l. rw (decimal_more n l, length-append) (omega arith)) (λ s. rw (decimal_small n s) (omega arith))

-- and so a name at least 14 bytes more than the unit's
tail_long : (count k : ℕ) → 14 ≤ length (name_tail count k)
unfolding name_tail bytes
tail_long count k = simp length-append (omega (arith, digit_some count))

-- ---- in a buffer

-- no suffix
pub suffix_none : (k : ℕ) → k ≡ 0 → [] ≡ suffix k
unfolding suffix
suffix_none k e = rw e

-- a suffix
pub suffix_some : (k : ℕ) → (k ≡ 0 → ⊥) → (95 ∷ []) ++ decimal k ≡ suffix k
unfolding suffix
suffix_some zero h = absurd (h refl)
suffix_some (suc k) h = refl

-- what stands in a name behind the unit's, in three pieces
pub tail_pieces : (count k : ℕ) → bytes "_selfloop_run" ++ decimal count ++ suffix k ≡ name_tail count k
unfolding name_tail
tail_pieces count k = rw append_assoc

-- what stands in a buffer before the next place, behind a piece written at its front
pub front_length : {limit next : ℕ} {out end p : List ℕ} → length out ≡ limit → Wrote limit out 0 p end next → next ≡ length (take next end)
front_length e w = simp length-take (omega (arith, keeps w, w.place))

-- is the piece, where there is room for it
pub front_same : {limit next : ℕ} {out end p : List ℕ} (q : List ℕ) {r : Bool} → length out ≡ limit → length p ≤ limit → Wrote limit out 0 p end next
    → r ≡ same q (take next end) → r ≡ same p q
front_same {limit} {next} {out} {end} {p} q e k w h =
    let front : take next end ≡ p = rw (written (omega arith) k w) (take_at p (drop (length p) out) next (omega (arith, w.place))) in
    h ∙ ap (same q) front ∙ same_sym q p

-- What a writer put at the front of a buffer stands there before its place, where there is room for it.
module _ {before after : Writer} {out now : List ℕ} {room : ℕ} (s : Starts out room before) (long : length out ≡ room) (is : after.out.now ≡ now) where
  front_is : {p : List ℕ} → Puts before p after → length p ≤ room → take after.at now ≡ p
  front_is {p} w k = rw is at front
    where
      started : Wrote room out 0 p after.out.now after.at
      started = rw (s.bytes, s.front, s.limit) at w.wrote

      front : take after.at after.out.now ≡ p
      front = rw (written (omega arith) k started) (take_at p (drop (length p) out) after.at (omega (arith, started.place)))

  -- a number
  pub same_number : (q : List ℕ) {r : Bool} {n : ℕ} → r ≡ same (take after.at now) q → 20 ≤ room → n ≤ 18446744073709551615 → Puts before (decimal n) after
      → r ≡ same (decimal n) q
  same_number q h k l w = h ∙ ap (λ x. same x q) (front_is w (omega (arith, decimal_short _ l)))

  -- what stands in a name behind the unit's
  pub tail_is : {count k : ℕ} → 54 ≤ room → count ≤ 18446744073709551615 → k ≤ 18446744073709551615 → Puts before (name_tail count k) after → take after.at now ≡ name_tail count k
  tail_is e l m w = front_is w (omega (arith, tail_short _ _ l m))

-- ---- summed

-- the sum of a name goes on from that of the unit's, sanitized
pub name_summed : (unit : List ℕ) (count k : ℕ) {h r : ℕ} → h ≡ sum_from 5381 (sanitized unit) → r ≡ sum_from h (name_tail count k) → r ≡ name_sum (new_name unit count k)
unfolding name_sum
name_summed unit count k e f = f ∙ rw (e, name_parts) (sym (sum_append 5381 (sanitized unit) (name_tail count k)))

-- ---- compared

-- strings whose fronts are of one length
same_append : (a b c d : List ℕ) → length a ≡ length c → same (a ++ b) (c ++ d) ≡ (same a c && same b d)
unfolding same
same_append [] b [] d h = refl
same_append [] b (y ∷ c) d h = absurd (omega arith)
same_append (x ∷ a) b [] d h = absurd (omega arith)
same_append (x ∷ a) b (y ∷ c) d h = by_test (eqb x y) (λ e. rw e (same_append a b c d (omega arith))) (λ e. rw e)

module _ (unit name : List ℕ) (count k : ℕ) where
  -- a name that is too short is another
  pub name_shorter : length name < length unit + 14 → false ≡ same (new_name unit count k) name
  name_shorter h =
      let front = length_sanitized unit in
      sym (same_length _ _ (λ e. omega (arith, ap length (name_parts unit count k), length-append (sanitized unit) (name_tail count k), tail_long count k)))

  module _ {front back : List ℕ} (is_front : front ≡ take (length unit) name) (is_back : back ≡ drop (length unit) name) (h : length unit + 14 ≤ length name) where
    -- any other by its front and what stands behind it
    name_both : same (new_name unit count k) name ≡ (same (sanitized unit) front && same (name_tail count k) back)
    name_both =
        let long = length_sanitized unit in
        let all : name ≡ front ++ back = rw (is_front, is_back) (sym (take-append-drop (length unit) name)) in
        rw (name_parts, all) (same_append _ _ _ _ (rw is_front (omega (arith, length-take-le (length unit) name (omega arith)))))

    module _ {r : Bool} (same_front : r ≡ same (sanitized unit) front) where
      -- the front is another
      pub name_front : r ≡ false → r ≡ same (new_name unit count k) name
      name_front e = e ∙ sym (name_both ∙ rw (← same_front, e))

      -- the front is the unit's: what stands behind it decides
      pub name_behind : {t : Bool} → r ≡ true → t ≡ same (name_tail count k) back → t ≡ same (new_name unit count k) name
      name_behind e behind = behind ∙ sym (name_both ∙ rw (← same_front, e))

pub ruleset comparing = (name_shorter, name_front, name_behind)
