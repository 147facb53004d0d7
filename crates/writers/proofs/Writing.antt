-- Laws of writing: one piece and then another, loops, measuring, and what stands in the buffer at the end. Assumes nothing.
use Prim.Native.Nat.{ℕ, suc, ◌+◌, ◌-◌, ◌≤◌, ◌<◌, min}
use native.Mathlib.Omega.{arith}
use native.Mathlib.Numerals.{add-one}
use mathlib.Core.Path.{◌≡◌, refl, sym, ap, ◌∙◌}
use mathlib.Core.List.{List, [], ◌∷◌, ◌++◌, append-nil}
use lib.ListN.{drop, get_or, length, length-append, length-take, set, take, take-append-drop}
use lib.Seq.{get_or-set_other, length-sets, length-take-le, paste, set_out, sets, sets-eq, take-append-add, take-append-le, take-suc, take-take, take_all}
use borrow.Rule.Slice.PartMut.{put_mid}
use Rattle.std.proofs.lemmas.Slice.{put_mid-paste}
use Rattle.writers.specs.declared.writer.Writer.{Writer}
use Rattle.writers.specs.Writers.{Wrote, StartsAt, Puts, Skips}
use Rattle.gfa_spec.proofs.Parts.{by_order}

infixl 30 ◌▷◌ ◌▶◌
-- ---- storing a list

-- past the end nothing is stored
pub sets_out : (l : List ℕ) (i : ℕ) (vs : List ℕ) → length l ≤ i → sets l i vs ≡ l
sets_out l i [] h = refl
sets_out l i (a ∷ vs) h = rw (set_out l i a h) (sets_out l (suc i) vs (omega arith))

-- two pieces stored one after the other
pub sets_append : (l : List ℕ) (i : ℕ) (vs ws : List ℕ) → sets l i (vs ++ ws) ≡ sets (sets l i vs) (i + length vs) ws
sets_append l i [] ws = ap (λ (k : ℕ). sets l k ws) (omega arith)
sets_append l i (a ∷ vs) ws = sets_append (set l i a) (suc i) vs ws ∙ ap (λ (k : ℕ). sets (sets l i (a ∷ vs)) k ws) (omega arith)

-- what stands before the place is as it was
pub sets_before : (l : List ℕ) (at : ℕ) (vs : List ℕ) (i : ℕ) → i < at → get_or (sets l at vs) i 0 ≡ get_or l i 0
sets_before l at [] i h = refl
sets_before l at (v ∷ vs) i h = sets_before (set l at v) (suc at) vs i (omega arith) ∙ get_or-set_other l at i v 0 (λ e. omega arith)

-- what there is no room for may be left out
pub sets_room : (l piece : List ℕ) (at n : ℕ) → n ≡ min (length piece) (length l - at) → sets l at (take n piece) ≡ sets l at piece
sets_room l piece at n e = by_order (length piece) n whole cut
  where
    whole : length piece ≤ n → sets l at (take n piece) ≡ sets l at piece
    whole h = rw (take_all n piece h)

    cut : n < length piece → sets l at (take n piece) ≡ sets l at piece
    cut h =
        let front = take n piece in
        let rest = drop n piece in
        let past : length (sets l at front) ≤ at + length front = omega (arith, length-sets l at front, length-take n piece) in
        cc (take-append-drop n piece, sets_append l at front rest, sets_out (sets l at front) (at + length front) rest past)

-- the front of two lists
take_both : (n : ℕ) (p q : List ℕ) → take n (p ++ q) ≡ take n p ++ take (n - length p) q
take_both n p q = by_order n (length p) short long
  where
    short : n ≤ length p → take n (p ++ q) ≡ take n p ++ take (n - length p) q
    short h =
        let none_left : n - length p ≡ 0 = omega arith in
        rw (none_left, take-append-le n p q h, append-nil)

    long : length p < n → take n (p ++ q) ≡ take n p ++ take (n - length p) q
    long h =
        let more : n ≡ length p + (n - length p) = omega arith in
        rw (take_all n p (omega arith)) (ap (λ (k : ℕ). take k (p ++ q)) more ∙ take-append-add p q (n - length p))

-- as many bytes as there is room for, copied to their place
pub copied : (out s : List ℕ) (at : ℕ) {ys : List ℕ} {n k : ℕ} → at < length out → n ≡ min (length s) (length out - at) → k ≡ n → ys ≡ take n s → put_mid at k out ys ≡ sets out at s
copied out s at {ys} {n} {k} h e q p =
    let long : length (take n s) ≡ n = length-take-le n s (omega arith) in
    put_mid-paste at k out ys (take n s) n p (sym q) (sym long) ∙ whole long ∙ sets_room out s at n e
  where
    whole : length (take n s) ≡ n → paste out at (take n s) n ≡ sets out at (take n s)
    whole long = sym (sets-eq (take n s) out at (omega (arith, long)) ∙ rw long (rw (take_all n (take n s) (omega (arith, long)))))

-- ---- a loop that stores a piece byte by byte

-- a turn
pub turn : (l piece : List ℕ) (at i : ℕ) {out : List ℕ} {b : ℕ} → i < length piece
    → out ≡ sets l at (take i piece) → b ≡ get_or piece i 0 → set out (at + i) b ≡ sets l at (take (i + 1) piece)
turn l piece at i {out} {b} h e f =
    rw (add-one, take-suc piece i 0 h, sets_append l at (take i piece), length-take-le i piece (omega arith), e, f)

-- how many fit: the buffer and the limit may be asked in either order
room_limit : (n room limit at : ℕ) → min n (min room limit - at) ≡ min (min (limit - at) n) (room - at)
room_limit n room limit at = rw shared (turned_round n (room - at) (limit - at))
  where
    shared : min room limit - at ≡ min (room - at) (limit - at)
    shared = omega arith

    turned_round : (n x y : ℕ) → min n (min x y) ≡ min (min y n) x
    turned_round n x y = omega arith

-- its end: as many bytes as fit are stored
pub turned : (l piece : List ℕ) (at i limit : ℕ) {out : List ℕ} {next : ℕ} → i ≡ min (length piece) (min (length l) limit - at)
    → out ≡ sets l at (take i piece) → next ≡ min (at + length piece) limit → Wrote limit l at piece out next
turned l piece at i limit {out} {next} h e f = record { bytes = e ∙ ap (sets l at) shorter ∙ sets_room l below at i fits; place = f }
  where
    below : List ℕ
    below = take (limit - at) piece

    fits : i ≡ min (length below) (length l - at)
    fits = rw length-take (h ∙ room_limit (length piece) (length l) limit at)

    shorter : take i piece ≡ take i below
    shorter = sym (take-take i (limit - at) piece (omega arith))

-- ---- pieces

-- a piece within the limit is stored whole, as far as the buffer has room
pub stored : {limit at next : ℕ} {out end p : List ℕ} → length p ≤ limit - at → Wrote limit out at p end next → end ≡ sets out at p
stored {limit} {at} {next} {out} {end} {p} h w = w.bytes ∙ ap (sets out at) (take_all (limit - at) p h)

-- the piece under another name
pub being : {limit at next : ℕ} {out end p q : List ℕ} → p ≡ q → Wrote limit out at p end next → Wrote limit out at q end next
being e w = rw (← e) w

-- an empty piece
pub nothing : {limit at next : ℕ} {out : List ℕ} → next ≡ min (at + 0) limit → Wrote limit out at [] out next
nothing {limit} {at} {next} {out} p = record { bytes = ap (sets out at) (sym (take_all (limit - at) [] (omega arith))); place = p }

-- one piece and then another
pub ◌▶◌ : {limit at next last : ℕ} {out mid end p q : List ℕ} → Wrote limit out at p mid next → Wrote limit mid next q end last → Wrote limit out at (p ++ q) end last
◌▶◌ {limit} {at} {next} {last} {out} {mid} {end} {p} {q} w v =
    record { bytes = by_order (at + length p) limit within past; place = omega (arith, length-append p q) }
  where
    first : List ℕ
    first = take (limit - at) p

    second : List ℕ
    second = take (limit - at - length p) q

    split : sets out at (take (limit - at) (p ++ q)) ≡ sets (sets out at first) (at + length first) second
    split = ap (sets out at) (take_both (limit - at) p q) ∙ sets_append out at first second

    within : at + length p ≤ limit → end ≡ sets out at (take (limit - at) (p ++ q))
    within h =
        let here : next ≡ at + length first = omega (arith, length-take (limit - at) p) in
        let left : limit - next ≡ limit - at - length p = omega arith in
        cc split

    past : limit < at + length p → end ≡ sets out at (take (limit - at) (p ++ q))
    past h =
        let left : limit - next ≡ 0 = omega arith in
        let none : limit - at - length p ≡ 0 = omega arith in
        cc split

-- writing keeps the length
pub keeps : {limit at next : ℕ} {out end p : List ℕ} → Wrote limit out at p end next → length end ≡ length out
keeps {limit} {at} {next} {out} {end} {p} w = ap length w.bytes ∙ length-sets out at (take (limit - at) p)

-- ---- pieces put by a writer

module _ {a b : Writer} where
  -- the piece under another name
  pub as_piece : {p q : List ℕ} → p ≡ q → Puts a p b → Puts a q b
  as_piece e w = rw (← e) w

  -- one piece and then another
  pub ◌▷◌ : {c : Writer} {p q : List ℕ} → Puts a p b → Puts b q c → Puts a (p ++ q) c
  ◌▷◌ {c} {p} {q} w v = record { same = v.same ∙ w.same; limit = v.limit ∙ w.limit; wrote = w.wrote ▶ (rw w.limit at v.wrote) }

-- a piece that a loop stored as far as it fits, and then the place behind it
pub puts_skipped : {a b c : Writer} {piece : List ℕ} {i n : ℕ} → b.out.ghost_name ≡ a.out.ghost_name → b.limit ≡ a.limit → b.at ≡ a.at
    → b.out.now ≡ sets a.out.now a.at (take i piece) → i ≡ min (length piece) (min (length a.out.now) a.limit - a.at) → n ≡ length piece → Skips b n c → Puts a piece c
puts_skipped {a} {b} {c} {piece} {i} {n} same limit at bytes fits long s =
    record {
      same = s.same ∙ same;
      limit = s.limit ∙ limit;
      wrote = turned a.out.now piece a.at i a.limit fits (s.bytes ∙ bytes) (s.place ∙ place);
    }
  where
    place : min (b.at + n) b.limit ≡ min (a.at + length piece) a.limit
    place = rw (at, limit, long) refl

-- a piece that a writer at any place put: past the limit nothing is written, and the place is the limit
pub begun_at : {a b : Writer} {out piece : List ℕ} {at limit : ℕ} → StartsAt out at limit a → Puts a piece b → Wrote limit out at piece b.out.now b.at
begun_at {a} {b} {out} {piece} {at} {limit} s p = by_order at limit within past
  where
    wrote : Wrote limit out (min at limit) piece b.out.now b.at
    wrote = rw (s.limit, s.place, s.bytes) at p.wrote

    within : at ≤ limit → Wrote limit out at piece b.out.now b.at
    within h =
        let here : min at limit ≡ at = omega arith in
        rw here at wrote

    past : limit < at → Wrote limit out at piece b.out.now b.at
    past h =
        let end : min at limit ≡ limit = omega arith in
        let none : limit - limit ≡ 0 = omega arith in
        let none_past : limit - at ≡ 0 = omega arith in
        record { bytes = rw none_past (rw (end, none) at wrote.bytes); place = omega (arith, wrote.place) }

-- and the buffer that comes back from it
pub left_at : {a b : Writer} {out after piece : List ℕ} {at limit : ℕ} → StartsAt out at limit a → Puts a piece b → after ≡ b.out.now → Wrote limit out at piece after b.at
left_at s p e = rw e (begun_at s p)

-- nothing
pub puts_nothing : {a : Writer} → Puts a [] a
puts_nothing {a} = record { same = refl; limit = refl; wrote = nothing (let h = a.below in omega arith) }

-- ---- measuring and writing an answer

-- With a limit one past the room, the place tells whether a piece fits the room. It does so on any buffer, and so on an empty one.

-- the place is past the room: the piece is longer
pub measured_long : {room next : ℕ} {out after piece : List ℕ} → Wrote (room + 1) out 0 piece after next → room < next → room < length piece
measured_long w h = omega (arith, w.place)

-- the place is within the room: it is the length of the piece
pub measured : {room next : ℕ} {out after piece : List ℕ} → Wrote (room + 1) out 0 piece after next → next ≤ room → next ≡ length piece
measured w h = omega (arith, w.place)

-- a buffer of which an empty part was lent to measure is as it was
pub untouched : (lent out : List ℕ) → length lent ≡ 0 → lent ++ out ≡ out
untouched [] out e = refl
untouched (b ∷ lent) out e = absurd (omega arith)

-- a piece that fits, written from the start, stands in front of what was there
pub written : {limit next : ℕ} {out end p : List ℕ} → length p ≤ length out → length p ≤ limit → Wrote limit out 0 p end next → end ≡ p ++ drop (length p) out
written {limit} {next} {out} {end} {p} h k w =
    let place : 0 + length p ≡ length p = omega arith in
    stored (omega arith) w ∙ sets-eq p out 0 (omega arith) ∙ ap (λ (n : ℕ). p ++ drop n out) place
