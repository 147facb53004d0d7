-- The columns of a line: the fields of S and L lines. Assumes nothing.
use Rattle.std.specs.Prelude.{Result, Ok, Err, Option, None, Some, false, ok_or, ◌<◌, [], ◌∷◌}
use Rattle.std.proofs.Common.{get_or, add-one}
use Rattle.refusals.specs.declared.reason.Reason.{Reason}
use Rattle.refusals.specs.declared.reason.Reason.TheVariants.{ShortLink}
use Rattle.refusals.specs.Reasons.{number_of}
use Rattle.scan.specs.declared.orientation.Orientation.{Orientation}
use Rattle.scan.specs.Orientations.{sign_of, OrientationIs}
use Rattle.scan.proofs.Orientations.{sign_is}
use Prim.Native.Nat.{ℕ, ◌+◌, ◌≤◌}
use native.Mathlib.Omega.{arith}
use mathlib.Core.List.{List}
use mathlib.Core.Path.{◌≡◌, refl}
use lib.ListN.{length}
use borrow.Author.Tests.{lt-ltb, le-ltb}
use Rattle.gfa_spec.specs.Reading.{then, fields, is_orientation, parse_orientation, parse_l}
use Rattle.scan.specs.Places.{part_at, bytes_in, Inside, FoundAt, FieldIs}
use Rattle.scan.proofs.Fields.{field_bytes, found_at, few_fields}
use Rattle.scan.specs.declared.places.Place.{Place}
use Rattle.lines.specs.Columns.{HasColumn}
use Rattle.lines.specs.LinkLines.{SignRead, SignIs, read_by, EndHolds, EndRefused, EndRead, EndIs, LinkFieldsAre}

-- ---- columns

module _ {text : List ℕ} {line : Place} {k : ℕ} {r : Option Place} where
  -- a line with field m has each field before it
  pub has_column : {m : ℕ} {f : Place} → Inside text line → FieldIs text line m r → r ≡ Some f → k ≤ m → HasColumn text line.start line.size k
  has_column h f e l = record { inside = h; more = omega (arith, (found_at f e).more) }

-- ---- an orientation

module _ {R : Type 0} (empty other : R) where
  pub sign_empty : (s : List ℕ) → length s ≡ 0 → SignRead s empty other (Err empty)
  sign_empty [] h = record { says = refl }
  sign_empty (x ∷ xs) h = absurd (omega arith)

  pub sign_long : (s : List ℕ) → 1 < length s → SignRead s empty other (Err other)
  sign_long [] h = absurd (omega arith)
  sign_long (x ∷ []) h = absurd (omega arith)
  sign_long (x ∷ (y ∷ ys)) h = record { says = refl }

  pub sign_one : (s : List ℕ) {r : Option Orientation} {c : Result Orientation R} → (length s ≡ 0 → ⊥) → length s ≤ 1 → OrientationIs (get_or s 0 0) r →
      c ≡ ok_or r other → SignRead s empty other c
  sign_one [] n l o e = absurd (n refl)
  sign_one (x ∷ (y ∷ ys)) n l o e = absurd (omega arith)
  sign_one (x ∷ []) {r} {c} n l o e = rw e (go r o)
    where
      go : (r : Option Orientation) → OrientationIs x r → SignRead (x ∷ []) empty other (ok_or r other)
      go (Some o) q = record { says = q.says }
      go None q = record { says = (q.says, refl) }

-- ---- an end of a link

module _ {R : Type 0} {text : List ℕ} {start size name mark : ℕ} {empty other : R} {p q : Place} {c : Result Orientation R}
    (f : FoundAt text start size name p.start p.size) (g : FoundAt text start size mark q.start q.size) (o : SignRead (bytes_in text q) empty other c) where
  pub end_read : {b : Orientation} → c ≡ Ok b → EndRead text start size name mark empty other (Ok (p, b))
  end_read e = record { says = (f, rw (field_bytes g) (rw e at o)) }

  pub end_unread : {k : R} → c ≡ Err k → EndRead text start size name mark empty other (Err k)
  end_unread e = record { says = rw (field_bytes g) (rw e at o) }

module _ {text : List ℕ} {start size name mark n : ℕ} {p q : Place} {c : Result Orientation Reason} (f : FoundAt text start size name p.start p.size)
    (g : FoundAt text start size mark q.start q.size) (o : SignIs n (bytes_in text q) c) where
  pub end_held : {b : Orientation} → c ≡ Ok b → EndIs text start size name mark n (Ok (p, b))
  end_held e = record { says = record { segment = f; reads = rw (field_bytes g) (rw e at o.says) } }

  pub end_refused : {k : Reason} → c ≡ Err k → EndIs text start size name mark n (Err k)
  end_refused e = record { says = record { reads = rw (field_bytes g) (rw e at o.says) } }

-- ---- refusals that have numbers, of which the second follows the first

module _ {R : Type 0} (number : R → ℕ) {empty other : R} (next : number other ≡ number empty + 1) where
  pub sign_numbered : (s : List ℕ) (r : Result Orientation R) → SignRead s empty other r → parse_orientation (number empty) s ≡ read_by number r
  unfolding parse_orientation
  sign_numbered [] r h = rw h.says refl
  sign_numbered (x ∷ (y ∷ ys)) r h = rw h.says (rw (next, add-one) refl)
  sign_numbered (x ∷ []) (Ok o) h = let p : x ≡ sign_of o = h.says in rw (p, sign_is o) refl
  sign_numbered (x ∷ []) (Err k) h =
      let p : is_orientation x ≡ false = h.says.0 in
      let q : k ≡ other = h.says.1 in
      rw (p, q, next, add-one) refl

  module _ {text : List ℕ} {start size name mark : ℕ} where
    pub end_holds : {p : Place × Orientation} → EndRead text start size name mark empty other (Ok p) → EndHolds text start size name mark (number empty) p.0 p.1
    end_holds {p} h = record { segment = h.says.0; reads = sign_numbered _ (Ok p.1) h.says.1 }

    pub end_refuses : {k : R} → EndRead text start size name mark empty other (Err k) → EndRefused text start size mark (number empty) (number k)
    end_refuses {k} h = record { reads = sign_numbered _ (Err k) h.says }

-- the numbers themselves
pub sign_by_number : (n : ℕ) {s : List ℕ} {r : Result Orientation ℕ} → SignRead s n (n + 1) r → parse_orientation n s ≡ read_by (λ k. k) r
sign_by_number n {s} {r} h = sign_numbered (λ k. k) refl s r h

-- reasons by their numbers
module _ {empty other : Reason} (next : number_of other ≡ number_of empty + 1) where
  pub sign_by_reason : {s : List ℕ} {r : Result Orientation Reason} → SignRead s empty other r → SignIs (number_of empty) s r
  sign_by_reason {s} {r = Ok o} h = record { says = sign_numbered number_of next s (Ok o) h }
  sign_by_reason {s} {r = Err k} h = record { says = sign_numbered number_of next s (Err k) h }

  pub end_by_reason : {text : List ℕ} {start size name mark : ℕ} {r : Result (Place × Orientation) Reason} → EndRead text start size name mark empty other r →
      EndIs text start size name mark (number_of empty) r
  end_by_reason {r = Ok p} h = record { says = end_holds number_of next h }
  end_by_reason {r = Err k} h = record { says = end_refuses number_of next h }

-- what the answer says, by its cases
module _ {text : List ℕ} {start size name mark n : ℕ} {r : Result (Place × Orientation) Reason} (h : EndIs text start size name mark n r) where
  end_at : {p : Place × Orientation} → r ≡ Ok p → EndHolds text start size name mark n p.0 p.1
  end_at e = rw e at h.says

  end_not : {k : Reason} → r ≡ Err k → EndRefused text start size mark n (number_of k)
  end_not e = rw e at h.says

-- ---- an L line

module _ {text : List ℕ} {line : Place} {f : Option Place} (h : FieldIs text line 5 f) where
  -- too few fields
  pub link_short : f ≡ None → LinkFieldsAre text line.start line.size (Err ShortLink)
  unfolding parse_l
  link_short e = record { says = record { read = rw (lt-ltb (length (fields (part_at text line.start line.size))) 6 (omega (arith, (few_fields h e).few))) } }

  module _ {x : Place} (found : f ≡ Some x) {a : Result (Place × Orientation) Reason} (i : EndIs text line.start line.size 1 2 8 a) where
    enough : 6 ≤ length (fields (part_at text line.start line.size))
    enough = omega (arith, (found_at h found).more)

    -- the first orientation is refused
    pub link_first : {k : Reason} → a ≡ Err k → LinkFieldsAre text line.start line.size (Err k)
    unfolding parse_l then
    link_first e = record { says = record { read = rw (le-ltb (length (fields (part_at text line.start line.size))) 6 enough, (end_not i e).reads) } }

    module _ {p : Place × Orientation} (e : a ≡ Ok p) {z : Result (Place × Orientation) Reason} (j : EndIs text line.start line.size 3 4 10 z) where
      -- the second orientation is refused
      pub link_second : {k : Reason} → z ≡ Err k → LinkFieldsAre text line.start line.size (Err k)
      unfolding parse_l then
      link_second d =
          record { says = record { read = rw (le-ltb (length (fields (part_at text line.start line.size))) 6 enough, (end_at i e).reads, (end_not j d).reads) } }

      -- the words of its row
      pub link_held : {q : Place × Orientation} → z ≡ Ok q → Inside text line →
          LinkFieldsAre text line.start line.size (Ok (record { line = line; from = p.0; leaves = p.1; to = q.0; enters = q.1 }))
      unfolding parse_l then part_at
      link_held {q} d inside =
          let u = end_at i e in
          let v = end_at j d in
          record {
            says =
                record {
                  columns = record { inside = inside; more = omega (arith, enough) };
                  first = refl;
                  long = refl;
                  from = u.segment.inside;
                  to = v.segment.inside;
                  read = rw (le-ltb (length (fields (part_at text line.start line.size))) 6 enough, u.reads, v.reads, field_bytes u.segment, field_bytes v.segment);
                };
          }
