-- The parts of a place, one at a time: those that are left, and how an iterator gives the first. Assumes nothing.
use Prim.Native.Nat.{ℕ, suc, ◌+◌, ◌-◌, ◌≤◌, ◌<◌}
use native.Mathlib.Decide.{dec_lt}
use native.Mathlib.Numerals.{add-one}
use native.Mathlib.Omega.{arith}
use mathlib.Core.List.{List, [], ◌∷◌}
use mathlib.Core.Path.{◌≡◌, refl, ◌∙◌}
use lib.ListN.{length}
use lib.Seq.{slice}
use borrow.Author.Tests.{le-leb, lt-leb}
use Rattle.std.specs.Prelude.{None, Some}
use Rattle.gfa_spec.specs.Bytes.{split}
use Rattle.scan.specs.declared.places.Place.{Place}
use Rattle.scan.specs.declared.split.Split.{Split}
use Rattle.scan.specs.Places.{FirstIs, part_at}
use Rattle.scan.specs.Parts.{parts_left, AllParts, PartGiven}
use Rattle.scan.proofs.Cutting.{part_range, split_more, split_last}

-- up to the end some are left, by their range
left_some : (s : Split) → s.at ≤ s.end → parts_left s ≡ split s.byte s.at (slice s.at s.end s.text.now)
unfolding parts_left
left_some s h = rw (le-leb s.at s.end h, part_range s.at s.end s.text.now h)

-- behind it none are
left_none : (s : Split) → s.end < s.at → parts_left s ≡ []
unfolding parts_left
left_none s h = rw (lt-leb s.at s.end h)

-- nothing is given yet
pub whole : {s : Split} {text : List ℕ} {b : ℕ} {p : Place} → s.text.now ≡ text → s.byte ≡ b → s.at ≡ p.start → s.end ≡ p.start + p.size → AllParts text b p s
unfolding parts_left
whole {p = p} q r e f =
    let n : p.start + p.size - p.start ≡ p.size = omega arith in
    record { same = q; front = e; end = f; left = rw (q, r, e, f, n, le-leb p.start (p.start + p.size) (omega arith)) }

-- none is given behind the end
pub no_part : {s : Split} → s.end < s.at → PartGiven s None s
no_part {s} h =
    let n = left_none s h in
    record { same = refl; end = refl; says = (n, n) }

-- the part up to the next separator is given
pub next_part : {s t : Split} {stop : ℕ} → s.at ≤ s.end → s.end ≤ length s.text.now → FirstIs s.text.now s.byte s.at s.end stop →
    t.text ≡ s.text → t.byte ≡ s.byte → t.end ≡ s.end → t.at ≡ stop + 1 → PartGiven s (Some (record { start = s.at; size = stop - s.at })) t
unfolding part_at
next_part {s} {t} {stop} h k f text byte end at =
    record {
      same = text;
      end = end;
      says =
          record {
            first = rw (left_some s h, part_range s.at stop s.text.now f.low) (go (dec_lt stop s.end));
            here = refl;
            high = omega (arith, f.low, f.high);
            on = omega (arith, at, f.low);
          };
    }
  where
    next : t.at ≡ suc stop
    next = rw add-one at at

    go : Dec (stop < s.end) → split s.byte s.at (slice s.at s.end s.text.now) ≡ record { at = s.at; bytes = slice s.at stop s.text.now } ∷ parts_left t
    go (yes l) = split_more f l k ∙ rw (left_some t (omega (arith, next, end)), text, byte, end, next)
    go (no n) = split_last f (omega (arith, f.high)) ∙ rw (left_none t (omega (arith, next, end, f.high)))

-- what an iterator over parts gives them by
pub ruleset giving = (whole, no_part, next_part)
