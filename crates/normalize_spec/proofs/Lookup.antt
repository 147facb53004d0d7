-- What is found under a new ID: one new segment, whose sequence is the repeated unit. Assumes nothing.
use Prim.Native.Nat.{ℕ}
use native.Mathlib.Omega.{arith}
use mathlib.Core.Bool.{Bool, true, false, cond, not, ◌&&◌}
use mathlib.Core.List.{List, [], ◌∷◌, ◌++◌, map}
use Rattle.std.specs.Prelude.{Option, None, Some}
use Rattle.gfa_spec.proofs.Options.{Some-injective}
use mathlib.Core.Path.{◌≡◌, refl, sym, ap, ◌∙◌}
use lib.Dec.{eqb}
use borrow.Author.Tests.{eqb-true, not-true}
use Rattle.gfa_spec.specs.Bytes.{same, any, all, repeat, distinct, Each}
use Rattle.gfa_spec.specs.Reading.{Segment}
use Rattle.gfa_spec.specs.Records.{sequence_of, sequence_or_empty}
use Rattle.gfa_spec.proofs.Tests.{by_test, clash, and_left, and_right, or_left, or_right, refute, same_refl, same_equal, equal_same, same_sym, apart_absent}
use Rattle.gfa_spec.proofs.Each.{each_implies, all_each}
use Rattle.gfa_spec.proofs.Copies.{repeat_all}
use Rattle.normalize_spec.specs.Folding.{New, Made, made_for}
use Rattle.normalize_spec.specs.Services.{as_segment}
use Rattle.normalize_spec.proofs.Segments.{ids, new_ids, is_repeated, SoundTable}

-- the first new segment with the ID
unfoldable pub new_for : List ℕ → List New → Option New
new_for id [] = None
new_for id (n ∷ new) = cond (same n.id id) (Some n) (new_for id new)

-- an ID that was made is one of the new IDs
made_in : (unit : List ℕ) (count : ℕ) (new : List New) (id : List ℕ) → made_for unit count new ≡ Some id → any (same id) (new_ids new) ≡ true
unfolding made_for new_ids any
made_in unit count [] id h = let z : ◌≡◌ {A = ℕ} 0 1 = cc in absurd (omega arith)
made_in unit count (n ∷ new) id h =
    by_test (same n.unit unit && eqb n.count count)
    (λ e. rw (Some-injective n.id id (rw e at h), same_refl id))
    (λ e. by_test (same id n.id) (λ f. rw f) (λ f. rw f (made_in unit count new id (rw e at h))))

-- an ID that was made has what each new ID has
pub made_each : (P : List ℕ → Type 0) (unit : List ℕ) (count : ℕ) (new : List New) (id : List ℕ) → made_for unit count new ≡ Some id → Each P (new_ids new) → P id
unfolding made_for new_ids
made_each P unit count [] id h p = let z : ◌≡◌ {A = ℕ} 0 1 = cc in absurd (omega arith)
made_each P unit count (n ∷ new) id h p =
    by_test (same n.unit unit && eqb n.count count)
    (λ e. rw (← (Some-injective n.id id (rw e at h))) p.0)
    (λ e. made_each P unit count new id (rw e at h) p.1)

-- The new segment made for a unit and a count: it is what its ID finds.
pub record Row (new : List New) (unit : List ℕ) (count : ℕ) (id : List ℕ) : Type 0 where
  pub row : New
  pub of_unit : row.unit ≡ unit
  pub of_count : row.count ≡ count
  pub found : new_for id new ≡ Some row

-- each ID that was made has its row
row_of : (unit : List ℕ) (count : ℕ) (new : List New) (id : List ℕ) → distinct (new_ids new) ≡ true → made_for unit count new ≡ Some id → Row new unit count id
unfolding made_for new_ids distinct new_for
row_of unit count [] id d h = let z : ◌≡◌ {A = ℕ} 0 1 = cc in absurd (omega arith)
row_of unit count (n ∷ new) id d h =
    by_test (same n.unit unit && eqb n.count count)
    (λ e. record {
      row = n;
      of_unit = same_equal n.unit unit (and_left (same n.unit unit) (eqb n.count count) e);
      of_count = eqb-true n.count count (and_right (same n.unit unit) (eqb n.count count) e);
      found = rw (equal_same n.id id (Some-injective n.id id (rw e at h)));
    })
    (λ e.
    let absent = not-true (any (same n.id) (new_ids new)) (and_left (not (any (same n.id) (new_ids new))) (distinct (new_ids new)) d) in
    let in_rest = made_in unit count new id (rw e at h) in
    let other = refute (same n.id id) (λ q. clash (rw (← (same_equal n.id id q)) at in_rest) absent) in
    let more = row_of unit count new id (and_right (not (any (same n.id) (new_ids new))) (distinct (new_ids new)) d) (rw e at h) in
    record { row = more.row; of_unit = more.of_unit; of_count = more.of_count; found = rw other more.found })

-- what each new segment has, the one found has
found_has : (p : New → Bool) (id : List ℕ) (new : List New) (n : New) → all p new ≡ true → new_for id new ≡ Some n → p n ≡ true
unfolding all new_for
found_has p id [] n h e = let z : ◌≡◌ {A = ℕ} 0 1 = cc in absurd (omega arith)
found_has p id (m ∷ new) n h e =
    by_test (same m.id id)
    (λ f. rw (← (Some-injective m n (rw f at e))) (and_left (p m) (all p new) h))
    (λ f. found_has p id new n (and_right (p m) (all p new) h) (rw f at e))

-- ---- the sequence of a name, in the old segments and the new ones

-- an ID finds the sequence of its new segment
found_sequence : (id : List ℕ) (new : List New) (n : New) → new_for id new ≡ Some n → sequence_of (map as_segment new) id ≡ Some n.sequence
unfolding new_for sequence_of as_segment
found_sequence id [] n e = let z : ◌≡◌ {A = ℕ} 0 1 = cc in absurd (omega arith)
found_sequence id (m ∷ new) n e =
    by_test (same m.id id)
    (λ f. rw (f, Some-injective m n (rw f at e)))
    (λ f. rw f (found_sequence id new n (rw f at e)))

-- a name of no segment is looked for behind them
sequence_behind : (ss more : List Segment) (name : List ℕ) → any (same name) (ids ss) ≡ false → sequence_of (ss ++ more) name ≡ sequence_of more name
unfolding sequence_of ids any
sequence_behind [] more name h = refl
sequence_behind (s ∷ ss) more name h =
    rw (same_sym s.id name, or_left (same name s.id) (any (same name) (ids ss)) h)
    (sequence_behind ss more name (or_right (same name s.id) (any (same name) (ids ss)) h))

-- a segment's name finds its sequence, whatever stands behind
pub sequence_before : (ss more : List Segment) (name seq : List ℕ) → sequence_of ss name ≡ Some seq → sequence_of (ss ++ more) name ≡ Some seq
unfolding sequence_of
sequence_before [] more name seq h = let z : ◌≡◌ {A = ℕ} 0 1 = cc in absurd (omega arith)
sequence_before (s ∷ ss) more name seq h =
    by_test (same s.id name)
    (λ e. rw e (rw e at h))
    (λ e. rw e (sequence_before ss more name seq (rw e at h)))

-- a name that finds a sequence is a segment's
pub sequence_in : (ss : List Segment) (name seq : List ℕ) → sequence_of ss name ≡ Some seq → any (same name) (ids ss) ≡ true
unfolding sequence_of ids any
sequence_in [] name seq h = let z : ◌≡◌ {A = ℕ} 0 1 = cc in absurd (omega arith)
sequence_in (s ∷ ss) name seq h =
    by_test (same s.id name)
    (λ e. rw (same_sym name s.id, e))
    (λ e. rw (same_sym name s.id, e) (sequence_in ss name seq (rw e at h)))

-- ---- the bytes of new sequences

-- a unit has the bytes of a sequence
unit_all : (p : ℕ → Bool) (ss : List Segment) (name : List ℕ) → Each (λ s. all p s.sequence ≡ true) ss → all p (sequence_or_empty ss name) ≡ true
unfolding sequence_or_empty sequence_of
unit_all p [] name h = unfold all in refl
unit_all p (s ∷ ss) name h = by_test (same s.id name) (λ e. rw (e, sequence_or_empty) h.0) (λ e. rw (e, sequence_or_empty) (unit_all p ss name h.1))

-- what each byte of the sequences has, each byte of the new sequences has
pub new_bytes : (p : ℕ → Bool) (ss : List Segment) (new : List New) → all (is_repeated ss) new ≡ true → Each (λ s. all p s.sequence ≡ true) ss
    → Each (λ n. all p n.sequence ≡ true) new
unfolding is_repeated
new_bytes p ss new r h =
    each_implies {P = λ n. is_repeated ss n ≡ true} {Q = λ n. all p n.sequence ≡ true}
    (λ n q. rw (same_equal n.sequence (repeat n.count (sequence_or_empty ss n.unit)) q) (repeat_all p n.count (sequence_or_empty ss n.unit) (unit_all p ss n.unit h)))
    new (all_each (is_repeated ss) new r)

-- ---- new IDs of a sound table

module _ (ss : List Segment) (made : Made) (sound : SoundTable ss made) where
  -- an ID that was made is no segment's
  pub new_outside : (unit : List ℕ) (count : ℕ) (id : List ℕ) → made_for unit count made.new ≡ Some id → any (same id) (ids ss) ≡ false
  new_outside unit count id h =
      refute (any (same id) (ids ss)) (λ i. clash (made_in unit count made.new id h) (apart_absent id (ids ss) (new_ids made.new) sound.outside i))

  -- an ID is made for one unit
  pub new_unit : (unit unit' : List ℕ) (count count' : ℕ) (id : List ℕ) → made_for unit count made.new ≡ Some id → made_for unit' count' made.new ≡ Some id
      → unit ≡ unit'
  new_unit unit unit' count count' id h h' =
      let a = row_of unit count made.new id sound.different h in
      let b = row_of unit' count' made.new id sound.different h' in
      let e : a.row ≡ b.row = Some-injective a.row b.row (sym a.found ∙ b.found) in
      sym a.of_unit ∙ ap (λ n. n.unit) e ∙ b.of_unit

  -- a new ID finds the repeated unit
  pub new_sequence : (unit : List ℕ) (count : ℕ) (id : List ℕ) → made_for unit count made.new ≡ Some id
      → sequence_of (ss ++ map as_segment made.new) id ≡ Some (repeat count (sequence_or_empty ss unit))
  unfolding is_repeated
  new_sequence unit count id h =
      let a = row_of unit count made.new id sound.different h in
      let n = a.row in
      let q = same_equal n.sequence (repeat n.count (sequence_or_empty ss n.unit)) (found_has (is_repeated ss) id made.new n sound.repeated a.found) in
      sequence_behind ss (map as_segment made.new) id (new_outside unit count id h) ∙ found_sequence id made.new n a.found ∙ cc (q, a.of_unit, a.of_count)
