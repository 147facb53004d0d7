-- The marks of a W line, and the steps that an iterator gives by them. Assumes nothing.
use Rattle.std.specs.Prelude.{None, Some}
use Rattle.scan.specs.declared.orientation.Orientation.{Orientation}
use Rattle.scan.specs.Orientations.{sign_of}
use Prim.Native.Nat.{ℕ, suc, ◌+◌, ◌-◌, ◌≤◌, ◌<◌}
use native.Mathlib.Numerals.{add-one}
use native.Mathlib.Omega.{arith}
use mathlib.Core.Bool.{Bool, true, false}
use mathlib.Core.List.{List, [], ◌∷◌, ◌++◌, append-nil, append_assoc}
use mathlib.Core.Path.{◌≡◌, refl, sym, ◌∙◌}
use lib.ListN.{length, get_or}
use lib.Seq.{slice, slice-cons, slice_empty}
use Rattle.gfa_spec.specs.Reading.{is_mark, orientation_of, walk}
use Rattle.scan.specs.declared.places.Place.{Place}
use Rattle.scan.specs.Places.{part_at}
use Rattle.steps.specs.declared.walks.Walk.{Walk}
use Rattle.steps.specs.WalkSteps.{walk_from, steps_left, AllSteps, StepGiven}
use Rattle.steps.specs.StepFields.{MarkIs}
use Rattle.scan.proofs.Cutting.{part_range}
use Rattle.scan.proofs.LineEnds as lines

-- the walk from a byte on
module _ (text : List ℕ) (i to : ℕ) (h : i < to) (k : to ≤ length text) where
  -- that is a mark
  walk_mark : is_mark (get_or text i 0) ≡ true →
      walk i (slice i to text) ≡
      record {
        before = [];
        steps =
            record { name = record { at = suc i; bytes = (walk (suc i) (slice (suc i) to text)).before }; orientation = orientation_of (get_or text i 0) }
            ∷ (walk (suc i) (slice (suc i) to text)).steps;
      }
  unfolding walk
  walk_mark e = rw (slice-cons i to text 0 h k, e)

  -- that is no mark
  walk_byte : is_mark (get_or text i 0) ≡ false →
      walk i (slice i to text) ≡ record { before = get_or text i 0 ∷ (walk (suc i) (slice (suc i) to text)).before; steps = (walk (suc i) (slice (suc i) to text)).steps }
  unfolding walk
  walk_byte e = rw (slice-cons i to text 0 h k, e)

-- nothing is left at the end
walk_none : (text : List ℕ) (to : ℕ) → walk to (slice to to text) ≡ record { before = []; steps = [] }
unfolding walk
walk_none text to = rw slice_empty

-- What a search for a mark finds, by ranges of the text.
record MarkFound (text : List ℕ) (from to r : ℕ) : Type 0 where
  pub before : (walk from (slice from to text)).before ≡ slice from r text
  pub steps : (walk from (slice from to text)).steps ≡ (walk r (slice r to text)).steps

mark_is : {text : List ℕ} {from to r : ℕ} → MarkFound text from to r → (r < to → is_mark (get_or text r 0) ≡ true) → from ≤ r → r ≤ to → MarkIs text from to r
mark_is {text} {from} {to} {r} m k l h =
    record {
      before = rw (part_range from to text (omega arith), part_range from r text l) m.before;
      steps = rw (part_range from to text (omega arith), part_range r to text h) m.steps;
      mark = k;
      low = l;
      high = h;
    }

mark_at : {text : List ℕ} {from to r : ℕ} → MarkIs text from to r → MarkFound text from to r
mark_at {text} {from} {to} {r} m =
    let l = m.low in
    let h = m.high in
    record {
      before = rw (part_range from to text (omega arith), part_range from r text l) at m.before;
      steps = rw (part_range from to text (omega arith), part_range r to text h) at m.steps;
    }

-- The search for a mark at i: the bytes from the range's start up to i are no marks.
pub record Marking (text : List ℕ) (from to i : ℕ) : Type 0 where
  pub low : from ≤ i
  pub high : i ≤ to
  pub inside : to ≤ length text
  pub before : (walk from (slice from to text)).before ≡ slice from i text ++ (walk i (slice i to text)).before
  pub steps : (walk from (slice from to text)).steps ≡ (walk i (slice i to text)).steps

module _ {text : List ℕ} {from to : ℕ} where
  pub marking_start : (from ≤ to) × (to ≤ length text) → Marking text from to from
  marking_start h = record { low = omega arith; high = h.0; inside = h.1; before = rw slice_empty; steps = refl }

  module _ {i : ℕ} (s : Marking text from to i) where
    pub marking_hit : {r : Bool} → i < to → r ≡ is_mark (get_or text i 0) → r ≡ true → MarkIs text from to i
    marking_hit h e t =
        mark_is (record { before = s.before ∙ rw (walk_mark text i to h s.inside (sym e ∙ t), append-nil); steps = s.steps }) (λ _. sym e ∙ t) s.low s.high

    pub marking_more : {r : Bool} → i < to → r ≡ is_mark (get_or text i 0) → r ≡ false → Marking text from to (i + 1)
    marking_more h e t =
        let w = walk_byte text i to h s.inside (sym e ∙ t) in
        rw add-one
        (record {
          low = omega arith;
          high = omega arith;
          inside = s.inside;
          before = s.before ∙ rw (w, lines.slice_snoc from i text s.low (omega arith), append_assoc);
          steps = s.steps ∙ rw w;
        })

    pub marking_end : to ≤ i → MarkIs text from to i
    marking_end h =
        let e : i ≡ to = omega arith in
        mark_is (record { before = s.before ∙ rw (e, walk_none, append-nil); steps = s.steps }) (λ l. absurd (omega arith)) s.low s.high

-- ---- the steps that are left

from_slice : (text : List ℕ) (at end : ℕ) → at ≤ end → walk_from text at end ≡ (walk at (slice at end text)).steps
unfolding walk_from
from_slice text at end h = rw (walk_from, part_range at end text h)

-- none are left at the end
pub no_steps : (text : List ℕ) (at end : ℕ) → at ≡ end → walk_from text at end ≡ []
no_steps text at end e = from_slice text at end (omega arith) ∙ rw (e, walk_none)

-- they are those from the next mark on
found : {text : List ℕ} {from to at : ℕ} → MarkIs text from to at → walk_from text from to ≡ (walk at (slice at to text)).steps
unfolding walk_from
found {text} {to = to} {at = at} m = m.steps ∙ rw (part_range at to text m.high)

-- nothing is given yet
pub all_steps : {s : Walk} {text : List ℕ} {p : Place} → s.text.now ≡ text → s.at ≡ p.start → s.end ≡ p.start + p.size → AllSteps text p s
unfolding walk_from
all_steps {p = p} q e f =
    let n : p.start + p.size - p.start ≡ p.size = omega arith in
    record { same = q; front = e; end = f; left = rw (q, e, f, walk_from, n) }

module _ {s : Walk} {at : ℕ} (inside : s.end ≤ length s.text.now) (m : MarkIs s.text.now s.at s.end at) where
  -- no mark is left
  pub no_step : at ≡ s.end → StepGiven s None s
  no_step e =
      let n : steps_left s ≡ [] = found m ∙ rw (e, walk_none) in
      record { same = refl; end = refl; says = (n, n) }

  -- the step at the next mark is given
  pub next_step : {t : Walk} {stop : ℕ} (o : Orientation) → (at ≡ s.end → ⊥) → MarkIs s.text.now (at + 1) s.end stop → sign_of o ≡ orientation_of (get_or s.text.now at 0) →
      t.text ≡ s.text → t.end ≡ s.end → t.at ≡ stop → StepGiven s (Some (record { name = record { start = at + 1; size = stop - (at + 1) }; mark = o })) t
  unfolding part_at
  next_step {t} {stop} o n k p text end here =
      let l : at < s.end = omega (arith, m.high, n) in
      let b = rw add-one at (mark_at k) in
      let g = part_range (at + 1) stop s.text.now k.low in
      let left : steps_left t ≡ (walk stop (slice stop s.end s.text.now)).steps = rw (text, end, here) (from_slice s.text.now stop s.end k.high) in
      record {
        same = text;
        end = end;
        says =
            record {
              first = found m ∙ rw (walk_mark s.text.now at s.end l inside (m.mark l), b.before, b.steps, left, g, p, add-one);
              low = omega (arith, m.low);
              on = omega (arith, here, k.low);
              high = omega (arith, here, end, k.high);
              more = λ h.
                  let j : stop < s.end = omega (arith, here, end, h) in
                  rw (left, walk_mark s.text.now stop s.end j inside (k.mark j)) (omega arith);
            };
      }

-- what the search for a mark goes on by
pub ruleset marking = (marking_start, marking_hit, marking_more, marking_end)
