-- Names compared sanitized, from their ends. Assumes nothing.
use Prim.Native.Nat.{ℕ, suc, ◌≤◌, ◌<◌}
use native.Mathlib.Omega.{arith}
use mathlib.Core.Bool.{Bool, true, false, cond}
use mathlib.Core.List.{List}
use mathlib.Core.Path.{◌≡◌, sym, ap, ◌∙◌}
use lib.ListN.{length, get_or, take}
use lib.Seq.{get_or-take, length-take-le}
use Rattle.std.specs.Prelude.{Option, None, Some}
use Rattle.gfa_spec.specs.Bytes.{same, AgreeFrom, LastAt}
use Rattle.gfa_spec.proofs.Comparing.{same_length, agree_back, agree_all, same_differ}
use Rattle.gfa_spec.proofs.Parts.{by_order}
use Rattle.gfa_spec.proofs.Tests.{equal_same, same_equal, same_sym, refute, clash}
use Rattle.normalize_spec.specs.Folding.{is_plain, sanitized}
use Rattle.scan.specs.Differences.{DifferenceIs}
use Rattle.new_names.proofs.Sanitizing.{length_sanitized, get_or_sanitized, sanitized_twice}

-- as many bytes are in a front
pub front_counted : (n : ℕ) (xs : List ℕ) → n ≤ length xs → n ≡ length (take n xs)
front_counted n xs h = sym (length-take-le n xs h)

-- ---- the names, sanitized

-- The state at `end`: from there on the names agree, sanitized.
pub record Alike (xs ys : List ℕ) (end : ℕ) : Type 0 where
  pub long : length xs ≡ length ys
  pub high : end ≤ length xs
  pub agree : AgreeFrom (sanitized xs) (sanitized ys) end

-- names of other lengths
pub unlike_long : (xs ys : List ℕ) → (length xs ≡ length ys → ⊥) → false ≡ same (sanitized xs) (sanitized ys)
unlike_long xs ys n = sym (same_length _ _ (λ e. n (sym (length_sanitized xs) ∙ e ∙ length_sanitized ys)))

pub alike_start : {xs ys : List ℕ} → length xs ≡ length ys → Alike xs ys (length xs)
alike_start {xs} h = record { long = h; high = omega arith; agree = record { bytes = λ k l m. absurd (omega (arith, length_sanitized xs)) } }

module _ {xs ys : List ℕ} {end : ℕ} (s : Alike xs ys end) where
  -- the fronts are equally long
  pub front_first : length (take end xs) ≡ end
  front_first = length-take-le end xs s.high

  pub front_second : length (take end ys) ≡ end
  front_second = length-take-le end ys (omega (arith, s.high, s.long))

  pub fronts_long : length (take end xs) ≡ length (take end ys)
  fronts_long = front_first ∙ sym front_second

  -- where their fronts agree from byte i on, they agree so sanitized
  on : {i : ℕ} → i ≤ end → AgreeFrom (take end xs) (take end ys) i → Alike xs ys i
  on {i} h d =
      record {
        long = s.long;
        high = omega (arith, s.high);
        agree = record { bytes = λ k l m. by_order end k (λ g. s.agree.bytes k g m) (go k l) };
      }
    where
      go : (k : ℕ) → i ≤ k → k < end → get_or (sanitized xs) k 0 ≡ get_or (sanitized ys) k 0
      go k l g =
          let front = d.bytes k l (omega (arith, front_first)) in
          let raw = sym (get_or-take end xs k 0 g) ∙ front ∙ get_or-take end ys k 0 g in
          get_or_sanitized xs k (omega (arith, s.high)) ∙ ap (λ b. cond (is_plain b) b 95) raw ∙ sym (get_or_sanitized ys k (omega (arith, s.high, s.long)))

  -- their fronts differ nowhere
  pub alike_yes : {d : Option ℕ} → DifferenceIs (take end xs) (take end ys) d → d ≡ None → true ≡ same (sanitized xs) (sanitized ys)
  alike_yes is e =
      let fronts : take end xs ≡ take end ys = rw e at is.says in
      let none : AgreeFrom (take end xs) (take end ys) 0 = record { bytes = λ k l m. ap (λ zs. get_or zs k 0) fronts } in
      let all = on (omega arith) none in
      sym (equal_same _ _ (agree_all (length_sanitized xs ∙ s.long ∙ sym (length_sanitized ys)) all.agree))

  -- they differ last at byte i
  module _ {d : Option ℕ} {i : ℕ} (is : DifferenceIs (take end xs) (take end ys) d) (e : d ≡ Some i) where
    last : LastAt (take end xs) (take end ys) i
    last = rw e at is.says

    pub alike_below : i < end
    alike_below = rw front_first at last.inside

    module _ {a b : ℕ} (p : a ≡ cond (is_plain (get_or xs i 0)) (get_or xs i 0) 95) (q : b ≡ cond (is_plain (get_or ys i 0)) (get_or ys i 0) 95) where
      first_byte : get_or (sanitized xs) i 0 ≡ a
      first_byte = get_or_sanitized xs i (omega (arith, alike_below, s.high)) ∙ sym p

      second_byte : get_or (sanitized ys) i 0 ≡ b
      second_byte = get_or_sanitized ys i (omega (arith, alike_below, s.high, s.long)) ∙ sym q

      pub alike_no : (a ≡ b → ⊥) → false ≡ same (sanitized xs) (sanitized ys)
      alike_no o = sym (same_differ _ _ i (λ t. o (sym first_byte ∙ t ∙ second_byte)))

      pub alike_more : a ≡ b → Alike xs ys i
      alike_more t =
          let behind = on (omega (arith, alike_below)) last.behind in
          record { long = s.long; high = omega (arith, alike_below, s.high); agree = agree_back (omega arith) behind.agree (first_byte ∙ t ∙ sym second_byte) }

-- what the comparison goes on by
pub ruleset comparing = (unlike_long, alike_start)

-- ---- a name, and itself sanitized

pub plain_yes : (xs : List ℕ) → AgreeFrom xs (sanitized xs) 0 → true ≡ same xs (sanitized xs)
plain_yes xs s = sym (equal_same _ _ (agree_all (sym (length_sanitized xs)) s))

module _ (xs : List ℕ) {i a : ℕ} (h : i < length xs) (p : a ≡ cond (is_plain (get_or xs i 0)) (get_or xs i 0) 95) where
  plain_byte : get_or (sanitized xs) i 0 ≡ a
  plain_byte = get_or_sanitized xs i h ∙ sym p

  pub plain_no : (get_or xs i 0 ≡ a → ⊥) → false ≡ same xs (sanitized xs)
  plain_no n = sym (same_differ _ _ i (λ e. n (e ∙ plain_byte)))

  pub plain_more : {j : ℕ} → suc i ≡ j → AgreeFrom xs (sanitized xs) j → get_or xs i 0 ≡ a → AgreeFrom xs (sanitized xs) i
  plain_more k s e = agree_back k s (e ∙ sym plain_byte)

-- ---- a name that is another, sanitized

module _ (xs ys : List ℕ) {r : Bool} (like : r ≡ same (sanitized xs) (sanitized ys)) where
  -- it is like it
  pub unlike : r ≡ false → r ≡ same (sanitized xs) ys
  unlike e = e ∙ sym (refute (same (sanitized xs) ys) (λ t. go (same_equal _ _ t) (sym like ∙ e)))
    where
      go : sanitized xs ≡ ys → same (sanitized xs) (sanitized ys) ≡ false → ⊥
      go e o = clash (equal_same _ _ (sym (sanitized_twice xs) ∙ ap sanitized e)) o

  -- and is itself, sanitized
  pub like_plain : {p : Bool} → r ≡ true → p ≡ same ys (sanitized ys) → p ≡ same (sanitized xs) ys
  like_plain e h = h ∙ same_sym ys (sanitized ys) ∙ ap (λ s. same s ys) (sym (same_equal _ _ (sym like ∙ e)))
