-- Field k of a line: what an iterator over its parts gives after k others. Assumes nothing.
use Prim.Native.Nat.{ℕ, ◌+◌, ◌≤◌}
use native.Mathlib.Omega.{arith}
use mathlib.Core.List.{List, [], ◌∷◌}
use mathlib.Core.Path.{◌≡◌, refl, ap, ◌∙◌}
use lib.ListN.{length}
use Rattle.std.specs.Prelude.{Option, None, Some}
use Rattle.scan.specs.declared.places.Place.{Place}
use Rattle.gfa_spec.specs.Bytes.{part, nth}
use Rattle.gfa_spec.specs.Reading.{fields, field, nowhere}
use Rattle.std.specs.Iterator.{Yields, SkipsThenYields}
use Rattle.scan.specs.declared.split.Split.{Split}
use Rattle.scan.specs.Parts.{parts_left, AllParts, PartGiven}
use Rattle.scan.specs.Places.{FoundAt, FewFields, FieldIs, part_at}

-- What n parts leave that were given: so many fewer, and part n first.
record PartsPassed (s : Split) (n : ℕ) (t : Split) : Type 0 where
  pub same : t.text ≡ s.text
  pub end : t.end ≡ s.end
  pub count : length (parts_left s) ≡ n + length (parts_left t)
  pub first : nth n (parts_left s) nowhere ≡ nth 0 (parts_left t) nowhere

passed : (s t : Split) (xs : List Place) → Yields PartGiven s xs t → PartsPassed s (length xs) t
unfolding nth
passed s t [] e = rw e (record { same = refl; end = refl; count = omega arith; first = refl })
passed s t (x ∷ xs) (j, h, y) =
    let f = h.says.first in
    let p = passed j t xs y in
    record {
      same = p.same ∙ h.same;
      end = p.end ∙ h.end;
      count = rw f (omega (arith, p.count));
      first = rw f p.first;
    }

-- the fields of a line are its parts between tabs
whole_fields : {text : List ℕ} {line : Place} {s : Split} → AllParts text 9 line s → parts_left s ≡ fields (part_at text line.start line.size)
unfolding fields part_at
whole_fields w = w.left

-- field k is part k
module _ {text : List ℕ} {line : Place} {k : ℕ} (inside : line.start + line.size ≤ length text) {s u : Split} (w : AllParts text 9 line s) where
  pub field_by_parts : {r : Option Place} → SkipsThenYields PartGiven s k r u → FieldIs text line k r
  unfolding nth
  field_by_parts {r} y = go r y
    where
      go : (r : Option Place) → SkipsThenYields PartGiven s k r u → FieldIs text line k r
      go None (xs, (t, y, h), l) =
          let p = passed s t xs y in
          record { says = record { few = omega (arith, ap length (whole_fields w), p.count, rw h.says.0 at p.count, l) } }
      go (Some f) (xs, (t, y, h), l) =
          let p = passed s t xs y in
          let g = h.says in
          let e = ap (λ l. l.now) p.same ∙ w.same in
          record {
            says =
                record {
                  more = omega (arith, ap length (whole_fields w), rw g.first at p.count, l);
                  field = rw (← whole_fields w, ← l, p.first, g.first, e);
                  inside = omega (arith, g.high, p.end, w.end, inside);
                };
          }

-- the bytes of a field that was found
pub field_bytes : {text : List ℕ} {start size k at long : ℕ} → FoundAt text start size k at long → field k (fields (part_at text start size)) ≡ part at long text
unfolding field part_at
field_bytes f = ap (λ p. p.bytes) f.field

-- what the answer says, by its cases
module _ {text : List ℕ} {line : Place} {k : ℕ} {r : Option Place} (h : FieldIs text line k r) where
  pub found_at : {f : Place} → r ≡ Some f → FoundAt text line.start line.size k f.start f.size
  found_at e = rw e at h.says

  pub few_fields : r ≡ None → FewFields text line.start line.size k
  few_fields e = rw e at h.says
