-- Laws of a repeated string, for the writer that writes it once and copies on what stands there. Assumes nothing.
use Prim.Native.Nat.{ℕ, zero, suc, ◌+◌, ◌-◌, ◌*◌, ◌≤◌, ◌<◌, min}
use native.Mathlib.Omega.{arith}
use native.Mathlib.Nat.{zero-add, suc-add, mul-zero, zero-mul, one-mul, suc-mul, add-mul, mul_comm, lt_of_mul-lt-mul_right}
use mathlib.Core.Path.{◌≡◌, sym, ap, ◌∙◌}
use mathlib.Core.List.{List, ◌++◌, append_assoc}
use lib.ListN.{length, take, drop, length-append}
use lib.Seq.{sets, length-sets, sets-eq, length-take-le, take-take, take-add, take-append-le, drop_at}
use Rattle.gfa_spec.specs.Bytes.{repeat, part}
use Rattle.writers.specs.Writers.{Wrote}
use Rattle.gfa_spec.proofs.Parts.{by_order}
use Rattle.writers.proofs.Writing.{sets_append, turned}

-- ---- a limit

-- the limit may be left out where what fits is within it
limit_out : (p room limit at : ℕ) → min (min p limit) (min room limit - at) ≡ min p (min room limit - at)
limit_out p room limit at = omega arith

-- and where the place behind it is limited anyway
limit_behind : (at p limit : ℕ) → min (at + min p limit) limit ≡ min (at + p) limit
limit_behind at p limit = omega arith

-- ---- a repeated string

-- its length
length_repeat : (k : ℕ) (unit : List ℕ) → length (repeat k unit) ≡ k * length unit
unfolding repeat
length_repeat zero unit = rw zero-mul
length_repeat (suc k) unit = rw (length-append, length_repeat k unit, suc-mul) (omega arith)

-- the length of a repeated string
pub length_repeated : (times : ℕ) (unit : List ℕ) → length (repeat times unit) ≡ length unit * times
length_repeated times unit = rw (length_repeat, mul_comm)

-- repeated so often, and then so often again
repeat_add : (j k : ℕ) (unit : List ℕ) → repeat (j + k) unit ≡ repeat j unit ++ repeat k unit
unfolding repeat
repeat_add zero k unit = rw zero-add
repeat_add (suc j) k unit = rw (suc-add, repeat_add j k unit, append_assoc)

-- behind k units it goes on as it began
repeat_again : (times k more : ℕ) (unit : List ℕ) → k ≤ times → k * length unit + more ≤ length (repeat times unit)
    → take more (drop (k * length unit) (repeat times unit)) ≡ take more (repeat times unit)
repeat_again times k more unit h room =
    rw (whole, drop_at (repeat k unit) (repeat (times - k) unit) (k * length unit) (length_repeat k unit))
    (sym (take-append-le more (repeat (times - k) unit) (repeat k unit) fits) ∙ ap (take more) (sym (repeat_add (times - k) k unit) ∙ ap (λ (m : ℕ). repeat m unit) (omega arith) ∙ whole))
  where
    whole : repeat times unit ≡ repeat k unit ++ repeat (times - k) unit
    whole = ap (λ (m : ℕ). repeat m unit) (omega arith) ∙ repeat_add k (times - k) unit

    fits : more ≤ length (repeat (times - k) unit)
    fits = omega (arith, simp length-append at (ap length whole), length_repeat k unit)

-- its front is that of the string
repeat_front : (times n : ℕ) (unit : List ℕ) → n ≤ length unit → n ≤ length (repeat times unit) → take n (repeat times unit) ≡ take n unit
unfolding repeat
repeat_front zero n unit h k =
    let none : n ≡ 0 = omega arith in
    rw none
repeat_front (suc times) n unit h k = take-append-le n unit (repeat times unit) h

-- ---- copying on what stands in the buffer

-- what was stored stands there
part_sets : (l vs : List ℕ) (at n : ℕ) → n ≤ length vs → at + length vs ≤ length l → part at n (sets l at vs) ≡ take n vs
unfolding part
part_sets l vs at n h room =
    rw (sets-eq vs l at room, append_assoc, drop_at (take at l) (vs ++ drop (at + length vs) l) at (length-take-le at l (omega arith)))
    (take-append-le n vs (drop (at + length vs) l) h)

-- a list goes on as it began: so its front, copied behind itself, is more of it
copied : (l whole : List ℕ) (at filled more : ℕ) → more ≤ filled → filled ≤ length whole → at + filled ≤ length l
    → take more (drop filled whole) ≡ take more whole
    → sets (sets l at (take filled whole)) (at + filled) (part at more (sets l at (take filled whole))) ≡ sets l at (take (filled + more) whole)
copied l whole at filled more h k room again =
    let size = length-take-le filled whole k in
    rw (part_sets l (take filled whole) at more (omega arith) (omega arith), take-take more filled whole h, take-add filled more whole, again, sets_append l at (take filled whole) (take more whole), size)

-- The state of that loop: `filled` bytes of `room` stand in the buffer, and the buffer began as `start` with the first of them.
pub record Filling (times : ℕ) (unit : List ℕ) (at limit room : ℕ) (start : List ℕ) (first : ℕ) (now : List ℕ) (filled : ℕ) : Type 0 where
  pub size : filled ≤ room
  pub fits : room ≤ min (length now) limit - at
  pub whole : room ≤ length (repeat times unit)
  pub some : filled < room → 0 < filled
  pub units : filled < room → (k : ℕ) × (filled ≡ k * length unit)
  pub bytes : (before : List ℕ) → start ≡ sets before at (take first (repeat times unit)) → now ≡ sets before at (take filled (repeat times unit))

-- before the first turn: one unit, or as much of it as there is room for
pub fill_start : (times : ℕ) (unit : List ℕ) (at limit first : ℕ) (start before : List ℕ) {room size : ℕ} → length start ≡ length before
    → size ≡ min (length (repeat times unit)) limit → room ≡ min size (min (length before) limit - at) → first ≡ min (length unit) room
    → Filling times unit at limit room start first start first
fill_start times unit at limit first start before {room} {size} long s r e = record {
  size = omega arith;
  fits = rw long (omega (arith, r));
  whole = whole;
  some = λ h. by_order (length unit) 0 (λ z. absurd (empty (omega arith) h)) (λ p. omega arith);
  units = λ h. (1, rw one-mul (omega arith));
  bytes = λ before d. d;
}
  where
    whole : room ≤ length (repeat times unit)
    whole = omega (arith, s, r)

    empty : length unit ≡ 0 → first < room → ⊥
    empty z h = omega (arith, length_repeat times unit ∙ ap (λ (n : ℕ). times * n) z ∙ mul-zero times)

-- before a turn: the rest is within the buffer and the limit
pub fill_inside : {times at limit room first filled : ℕ} {unit start now : List ℕ} → Filling times unit at limit room start first now filled → filled < room
    → (at + room ≤ length now) × (at + room ≤ limit)
fill_inside f h = (omega (arith, f.fits), omega (arith, f.fits))

-- what a turn copies lies behind its source, within the buffer and the limit, and it gets on
pub record Ahead (at limit room : ℕ) (now : List ℕ) (filled more : ℕ) : Type 0 where
  pub source : at + more ≤ at + filled
  pub target : at + filled + more ≤ length now
  pub bound : filled + more ≤ limit
  pub less : room - (filled + more) < room - filled

pub fill_ahead : {times at limit room first filled more : ℕ} {unit start now : List ℕ} → Filling times unit at limit room start first now filled → filled < room
    → more ≡ min filled (room - filled) → Ahead at limit room now filled more
fill_ahead {times} {at} {limit} {room} {first} {filled} {more} {unit} {start} {now} f h e =
    record { source = omega (arith, fewer); target = omega (arith, inside, within); bound = omega (arith, inside, within); less = omega (arith, within, some) }
  where
    inside : (at + room ≤ length now) × (at + room ≤ limit)
    inside = fill_inside f h

    fewer : more ≤ filled
    fewer = omega (arith, e)

    within : filled + more ≤ room
    within = omega (arith, e)

    some : 0 < more
    some = omega (arith, e, f.some h)

-- a turn copies what stands there, or as much of it as there is room for
pub fill_more : {times at limit room first filled more : ℕ} {unit start now after : List ℕ} → Filling times unit at limit room start first now filled → filled < room
    → more ≡ min filled (room - filled) → after ≡ sets now (at + filled) (part at more now) → Filling times unit at limit room start first after (filled + more)
fill_more {times} {at} {limit} {room} {first} {filled} {more} {unit} {start} {now} {after} f h e d = record {
  size = omega (arith, f.size);
  fits = rw (ap length d ∙ length-sets now (at + filled) (part at more now)) f.fits;
  whole = f.whole;
  some = λ l. omega (arith, f.some h);
  units = λ l. (count + count, rw add-mul (omega (arith, counted)));
  bytes = λ before b. d ∙ rw (f.bytes before b) (copied before (repeat times unit) at filled more (omega arith) (omega (arith, f.whole)) (inside before b) again);
}
  where
    count : ℕ
    count = (f.units h).0

    counted : filled ≡ count * length unit
    counted = (f.units h).1

    fewer : count < times
    fewer = lt_of_mul-lt-mul_right (length unit) (omega (arith, counted, f.whole, length_repeat times unit))

    again : take more (drop filled (repeat times unit)) ≡ take more (repeat times unit)
    again =
        ap (λ (m : ℕ). take more (drop m (repeat times unit))) counted
        ∙ repeat_again times count more unit (omega (arith, fewer)) (omega (arith, counted, f.whole))

    inside : (before : List ℕ) → start ≡ sets before at (take first (repeat times unit)) → at + filled ≤ length before
    inside before b = omega (arith, fill_inside f h, ap length (f.bytes before b) ∙ length-sets before at (take filled (repeat times unit)))

-- after the last turn
pub fill_end : {times at limit room first filled size next : ℕ} {unit start now before : List ℕ}
    → Filling times unit at limit room start first now filled → room ≤ filled
    → size ≡ min (length (repeat times unit)) limit → room ≡ min size (min (length before) limit - at) → first ≡ min (length unit) room
    → start ≡ sets before at (take first unit) → next ≡ min (at + size) limit → Wrote limit before at (repeat times unit) now next
fill_end {times} {at} {limit} {room} {first} {filled} {size} {next} {unit} {start} {now} {before} f h s r e d place =
    turned before (repeat times unit) at filled limit (same ∙ r ∙ rw s (limit_out _ (length before) limit at)) (f.bytes before began) (place ∙ rw s (limit_behind at _ limit))
  where
    same : filled ≡ room
    same = omega (arith, f.size)

    began : start ≡ sets before at (take first (repeat times unit))
    began = d ∙ ap (sets before at) (sym (repeat_front times first unit (omega arith) (omega (arith, f.whole))))
