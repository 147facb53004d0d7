-- Two strings of one length compared from the last byte back: the state, how it goes on, and what the answer says; and the name `*`. Assumes nothing.
use Prim.Native.Nat.{ℕ, ◌+◌, ◌-◌, ◌≤◌, ◌<◌}
use native.Mathlib.Omega.{arith}
use mathlib.Core.Bool.{Bool, true, false}
use mathlib.Core.List.{List, [], ◌∷◌}
use mathlib.Core.Path.{◌≡◌, refl, sym}
use lib.ListN.{length, get_or}
use Rattle.gfa_spec.specs.Bytes.{part, same, AgreeFrom, LastAt, DifferenceSays}
use Rattle.std.specs.Prelude.{Option, None, Some, is_some, not}
use Rattle.scan.specs.Differences.{DifferenceIs}
use Rattle.gfa_spec.proofs.Comparing.{agree_back, last_back, agree_all, says_last, same_differ}
use Rattle.gfa_spec.proofs.Parts.{part_cons}
use Rattle.gfa_spec.proofs.Tests.{equal_same}

-- ---- from the last byte back

-- what such an answer says is the definition's
answers : (xs ys : List ℕ) (r : Option ℕ) → length xs ≡ length ys → DifferenceSays xs ys r → DifferenceIs xs ys r
answers xs ys r h s = record { place = says_last xs ys r h s; says = s }

module _ {xs ys : List ℕ} (long : length xs ≡ length ys) where
  -- behind their last bytes
  pub back_start : AgreeFrom xs ys (length xs)
  back_start = record { bytes = λ i l m. absurd (omega arith) }

  module _ {j : ℕ} (h : 0 < j) (k : j ≤ length xs) (s : AgreeFrom xs ys j) where
    -- the byte before those that agree
    pub back_stop : (get_or xs (j - 1) 0 ≡ get_or ys (j - 1) 0 → ⊥) → DifferenceIs xs ys (Some (j - 1))
    back_stop d = answers xs ys (Some (j - 1)) long (last_back (omega arith) s k d)

    pub back_more : get_or xs (j - 1) 0 ≡ get_or ys (j - 1) 0 → AgreeFrom xs ys (j - 1)
    back_more e = agree_back (omega arith) s e

  -- there is none: all are equal
  pub back_end : AgreeFrom xs ys 0 → DifferenceIs xs ys None
  back_end s = answers xs ys None long (agree_all long s)

-- ---- what the answer says, by its cases

module _ {xs ys : List ℕ} {r : Option ℕ} (is : DifferenceIs xs ys r) where
  module _ {i : ℕ} (e : r ≡ Some i) where
    last_at : LastAt xs ys i
    last_at = rw e at is.says

    pub difference_no : false ≡ same xs ys
    difference_no = sym (same_differ xs ys i last_at.differ)

  module _ (e : r ≡ None) where
    pub difference_none : xs ≡ ys
    difference_none = rw e at is.says

    pub difference_yes : true ≡ same xs ys
    difference_yes = sym (equal_same xs ys difference_none)

-- an answer that is yes where there is none
pub same_where_none : {xs ys : List ℕ} {r : Option ℕ} {b : Bool} → DifferenceIs xs ys r → is_some r ≡ not b → b ≡ same xs ys
same_where_none {xs} {ys} {r} {b} is e = go r refl b e
  where
    go : (o : Option ℕ) → r ≡ o → (b : Bool) → is_some o ≡ not b → b ≡ same xs ys
    go None q true e = difference_yes is q
    go None q false e = cc
    go (Some i) q true e = cc
    go (Some i) q false e = difference_no is q

-- ---- a part of one byte

pub one_byte : (text : List ℕ) (at size : ℕ) → at + size ≤ length text → size ≡ 1 → part at size text ≡ get_or text at 0 ∷ []
unfolding part
one_byte text at size h e = rw (e, part_cons at 0 text (omega arith))
