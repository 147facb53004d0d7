-- The rows of the new segments, and the IDs that they stand for. Assumes nothing.
use Prim.Native.Nat.{ℕ, ◌+◌, ◌≤◌, ◌<◌}
use mathlib.Core.Bool.{Bool, true, false, cond}
use mathlib.Core.List.{List}
use Rattle.std.specs.Prelude.{Option, None, Some}
use mathlib.Core.Path.{◌≡◌, refl, sym, ap, ◌∙◌}
use lib.Dec.{ltb}
use borrow.Author.Tests.{lt-ltb, le-ltb, ltb-true, ltb-false}
use Rattle.gfa_spec.specs.Bytes.{same}
use Rattle.gfa_spec.specs.Decimal.{decimal, largest64}
use Rattle.gfa_spec.proofs.Options.{Some-injective, None-ne-Some}
use Rattle.normalize_spec.specs.Folding.{usable}
use Rattle.normalize_spec.specs.NewNames.{new_name}
use Rattle.tables.specs.declared.tables.Bases.{Bases}
use Rattle.tables.specs.declared.tables.Counts.{Counts}
use Rattle.tables.specs.ByNumber.{segment_no}
use Rattle.writers.specs.declared.writer.Writer.{Writer}
use Rattle.writers.specs.Writers.{Puts}
use Rattle.writers.proofs.Writing.{as_piece}
use Rattle.normalize_tables.specs.declared.layout.Layout.{Layout}
use Rattle.normalize_tables.specs.declared.rows.NewSegmentWords.{NewSegmentWords}
use Rattle.normalize_tables.specs.News.{segment_words, new_id_of, new_at}
use Rattle.normalize_tables.specs.NewByNumber.{NewSegmentIs}

-- ---- the number of a new segment

-- it has one exactly where it may be used
usable_is : (k : ℕ) → usable (Some k) ≡ cond (ltb k largest64) (Some k) None
unfolding usable
usable_is k = refl

pub number_small : {k v : ℕ} {o : Option ℕ} → o ≡ usable (Some k) → o ≡ Some v → (k < largest64) × (v ≡ k)
number_small {k} {v} e h = go (ltb k largest64) refl
  where
    go : (t : Bool) → ltb k largest64 ≡ t → (k < largest64) × (v ≡ k)
    go true l = let is : Some v ≡ Some k = sym h ∙ e ∙ usable_is k ∙ rw l in (ltb-true k largest64 l, Some-injective v k is)
    go false l = absurd (None-ne-Some v (sym (sym h ∙ e ∙ usable_is k ∙ rw l)))

pub number_large : {k : ℕ} {o : Option ℕ} → o ≡ usable (Some k) → o ≡ None → largest64 ≤ k
number_large {k} e h = go (ltb k largest64) refl
  where
    go : (t : Bool) → ltb k largest64 ≡ t → largest64 ≤ k
    go true l = absurd (None-ne-Some k (sym h ∙ e ∙ usable_is k ∙ rw l))
    go false l = ltb-false k largest64 l

module _ (text work : List ℕ) (b : Bases) (g : Layout) (first j : ℕ) where
  -- a new segment that has a number
  pub numbered_id : first + j < largest64 → (new_at text b g first work j).id ≡ decimal (first + j)
  unfolding new_at new_id_of
  numbered_id h = rw (lt-ltb (first + j) largest64 h)

  -- a new segment that has a name: that of its unit, its run length and its suffix
  pub named_id : largest64 ≤ first + j
      → (new_at text b g first work j).id ≡ new_name (new_at text b g first work j).unit (new_at text b g first work j).count (segment_words work g j).suffix
  unfolding new_at new_id_of
  named_id h = rw (le-ltb (first + j) largest64 h)

  -- so it is written, and compared
  module _ {o : Option ℕ} {k : ℕ} (e : o ≡ usable (Some (first + j))) (h : o ≡ Some k) where
    number : decimal k ≡ (new_at text b g first work j).id
    number = let (low, is) = number_small e h in rw is (sym (numbered_id low))

    pub puts_number : {w v : Writer} → Puts w (decimal k) v → Puts w (new_at text b g first work j).id v
    puts_number p = as_piece number p

    pub same_number : (name : List ℕ) {r : Bool} → r ≡ same (decimal k) name → r ≡ same (new_at text b g first work j).id name
    same_number name i = i ∙ ap (λ (x : List ℕ). same x name) number

  module _ {n : Counts} {r : NewSegmentWords} {unit : List ℕ} {o : Option ℕ} (e : o ≡ usable (Some (first + j))) (h : o ≡ None) (x : NewSegmentIs text work b n g first j r)
      (u : unit ≡ (segment_no text work b r.unit.0).id) where
    pub new_name_is : new_name unit r.count r.suffix ≡ (new_at text b g first work j).id
    unfolding new_id_of
    new_name_is = sym (ap (λ x. x.id) x.new ∙ rw (le-ltb (first + j) largest64 (number_large e h), u))

    pub puts_name : {w v : Writer} → Puts w (new_name unit r.count r.suffix) v → Puts w (new_at text b g first work j).id v
    puts_name p = as_piece new_name_is p

    pub same_name : (name : List ℕ) {q : Bool} → q ≡ same (new_name unit r.count r.suffix) name → q ≡ same (new_at text b g first work j).id name
    same_name name i = i ∙ ap (λ (x : List ℕ). same x name) new_name_is

pub ruleset written = (puts_number, puts_name)

pub ruleset compared = (same_number, same_name)
