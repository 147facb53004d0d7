-- The number of the next new segment in closed form, and its ID. Assumes nothing.
use Prim.Native.Nat.{ℕ, zero, suc, ◌+◌, ◌≤◌, ◌<◌}
use native.Mathlib.Nat.{add-zero, add-suc}
use native.Mathlib.Omega.{arith}
use mathlib.Core.Bool.{false, cond}
use mathlib.Core.List.{List}
use Rattle.std.specs.Prelude.{Option, None, Some}
use mathlib.Core.Path.{◌≡◌, refl, sym}
use lib.Dec.{ltb}
use borrow.Author.Tests.{lt-ltb, ltb-true, ltb-false}
use Rattle.gfa_spec.specs.Decimal.{largest64}
use Rattle.gfa_spec.specs.Reading.{Segment}
use Rattle.gfa_spec.proofs.Tests.{by_test, refute}
use Rattle.normalize_spec.specs.Folding.{none_made, next_after, usable, new_id}
use Rattle.tables.specs.declared.tables.Bases.{Bases}
use Rattle.tables.specs.declared.tables.Counts.{Counts}
use Rattle.tables.specs.ByNumber.{segments_of}
use Rattle.normalize_tables.specs.declared.layout.Layout.{Layout}
use Rattle.normalize_tables.specs.News.{first_of, first_number, new_id_of}
use Rattle.new_ids.specs.Ids.{SuffixIs}
use Rattle.new_ids.proofs.NewRows.{number_small, number_large}
use Rattle.new_segs.specs.Makes.{next_at, Making, SuffixFor}

-- a number that may be used, or none
unfoldable pub usable_from : ℕ → Option ℕ
usable_from k = cond (ltb k largest64) (Some k) None

-- a number that is not below another
pub not_less : (k m : ℕ) → m ≤ k → ltb k m ≡ false
not_less k m h = refute (ltb k m) (λ e. let l = ltb-true k m e in absurd (omega arith))

-- the first
usable_first : (o : Option ℕ) → usable o ≡ usable_from (first_of o)
unfolding usable usable_from first_of
usable_first None = rw (not_less largest64 largest64 (omega arith))
usable_first (Some m) = refl

-- and one more
usable_more : (k : ℕ) → usable (next_after (usable_from k)) ≡ usable_from (suc k)
unfolding usable_from
usable_more k =
    by_test (ltb k largest64)
    (λ e. rw e (unfold next_after usable in refl))
    (λ e. rw e (unfold next_after usable in rw (not_less (suc k) largest64 (omega (arith, ltb-false k largest64 e)))))

-- The next number behind q new segments may be used while it is below the largest; it is the q-th from the first on.
pub usable_at : (ss : List Segment) (q : ℕ) → usable (next_at ss q) ≡ usable_from (first_number ss + q)
unfolding next_at first_number
usable_at ss zero = rw add-zero (usable_first (none_made ss).next)
usable_at ss (suc q) = rw (usable_at ss q, add-suc) (usable_more (first_number ss + q))

-- ---- the ID

module _ {text work : List ℕ} {b : Bases} {n : Counts} {g : Layout} {first q : ℕ} (m : Making text work b n g first q) where
  next_is : usable (next_at (segments_of text work b n) q) ≡ usable_from (first + q)
  next_is = rw m.first_is (usable_at (segments_of text work b n) q)

  number_suffix : {unit count : ℕ} → first + q < largest64 → SuffixFor text work b n g first q unit count 0
  number_suffix h =
      record {
        id = rw next_is (unfold usable_from new_id_of in rw (lt-ltb (first + q) largest64 h) (unfold new_id in refl));
        named = λ l. absurd (omega arith);
        few = omega arith;
      }

  name_suffix : {unit count r : ℕ} → largest64 ≤ first + q → SuffixIs text work b n g first q unit count r → SuffixFor text work b n g first q unit count r
  name_suffix h s =
      record {
        id = rw next_is (unfold usable_from new_id_of in rw (not_less (first + q) largest64 h) (unfold new_id in sym s.free));
        named = λ l. s;
        few = s.few;
      }

  module _ {o : Option ℕ} (e : o ≡ usable (Some (first + q))) where
    -- a number
    pub suffix_number : {unit count k : ℕ} → o ≡ Some k → SuffixFor text work b n g first q unit count 0
    suffix_number f = number_suffix (number_small e f).0

    -- a name
    pub suffix_large : o ≡ None → largest64 ≤ first + q
    suffix_large f = number_large e f

    pub suffix_name : {unit count r : ℕ} → o ≡ None → SuffixIs text work b n g first q unit count r → SuffixFor text work b n g first q unit count r
    suffix_name f s = name_suffix (suffix_large f) s

pub ruleset suffixing = (suffix_large, suffix_name)
