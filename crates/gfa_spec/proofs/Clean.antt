-- A text with no bad byte: the bytes of its lines, and of the fields of its lines. Assumes nothing.
use Prim.Native.Nat.{ℕ, suc}
use native.Mathlib.Omega.{arith}
use mathlib.Core.Bool.{Bool, true, false, cond, not, ◌&&◌, true≢false}
use mathlib.Core.List.{List, [], ◌∷◌, map}
use Rattle.std.specs.Prelude.{Option, None, Some}
use mathlib.Core.Path.{◌≡◌, refl}
use lib.Dec.{eqb, leb}
use borrow.Author.Tests.{not-true}
use Rattle.gfa_spec.specs.Bytes.{Part, bytes_of, split, join_with, tabbed, end_line, ended, prepend, between, Each}
use Rattle.gfa_spec.specs.Reading.{drop_return, line_of, lines, fields}
use Rattle.gfa_spec.specs.Calls.{at_place, bad_byte}
use Rattle.gfa_spec.proofs.Tests.{by_test, and_left, and_right}
use Rattle.gfa_spec.proofs.Each.{Lacks, each_append, each_join, each_map, each_implies, each_of_map}
use Rattle.gfa_spec.proofs.Splitting.{split_between, parts_each}
use Rattle.gfa_spec.proofs.Lines.{each_drop_return, lines_each, lines_lack}

-- ---- the bytes of lines and fields

-- a byte that a line may hold: no line feed, no carriage return, below 128
unfoldable pub is_line_byte : ℕ → Bool
is_line_byte b = not (eqb b 10) && (not (eqb b 13) && not (leb 128 b))

-- a byte that a field may hold: no tab either
unfoldable pub is_field_byte : ℕ → Bool
is_field_byte b = not (eqb b 9) && is_line_byte b

-- each byte is one that a line may hold
abbrev pub LineBytes : List ℕ → Type 0
LineBytes s = Each (λ b. is_line_byte b ≡ true) s

-- each byte is one that a field may hold
abbrev pub FieldBytes : List ℕ → Type 0
FieldBytes s = Each (λ b. is_field_byte b ≡ true) s

-- such a byte is no line feed
pub no_feed : (b : ℕ) → is_line_byte b ≡ true → eqb b 10 ≡ false
unfolding is_line_byte
no_feed b h = not-true (eqb b 10) (and_left (not (eqb b 10)) (not (eqb b 13) && not (leb 128 b)) h)

-- no carriage return
pub no_return : (b : ℕ) → is_line_byte b ≡ true → eqb b 13 ≡ false
unfolding is_line_byte
no_return b h = not-true (eqb b 13) (and_left (not (eqb b 13)) (not (leb 128 b)) (and_right (not (eqb b 10)) (not (eqb b 13) && not (leb 128 b)) h))

-- and below 128
pub is_low : (b : ℕ) → is_line_byte b ≡ true → leb 128 b ≡ false
unfolding is_line_byte
is_low b h = not-true (leb 128 b) (and_right (not (eqb b 13)) (not (leb 128 b)) (and_right (not (eqb b 10)) (not (eqb b 13) && not (leb 128 b)) h))

-- a byte of a field is no tab
pub untabbed : (b : ℕ) → is_field_byte b ≡ true → eqb b 9 ≡ false
unfolding is_field_byte
untabbed b h = not-true (eqb b 9) (and_left (not (eqb b 9)) (is_line_byte b) h)

-- and a byte of a line
pub field_line : (b : ℕ) → is_field_byte b ≡ true → is_line_byte b ≡ true
unfolding is_field_byte
field_line b h = and_right (not (eqb b 9)) (is_line_byte b) h

-- a byte of a line that is no tab is a byte of a field
line_field : (b : ℕ) → is_line_byte b ≡ true → eqb b 9 ≡ false → is_field_byte b ≡ true
unfolding is_field_byte
line_field b h e = rw (e, h)

-- ---- a text with no bad byte

-- each carriage return has a line feed next
abbrev pub Returned : List ℕ → Type 0
Returned [] = Unit {0}
Returned (b ∷ []) = eqb b 13 ≡ false
Returned (b ∷ (c ∷ s)) = ((eqb b 13 && not (eqb c 10)) ≡ false) × Returned (c ∷ s)

-- each byte is below 128
abbrev pub Low : List ℕ → Type 0
Low s = Each (λ b. leb 128 b ≡ false) s

-- no refusal: the test before it failed, and none follows
no_refusal : {A : Type 0} (t : Bool) (x : A) (y : Option A) → cond t (Some x) y ≡ None → (t ≡ false) × (y ≡ None)
no_refusal true x y e = let z : ◌≡◌ {A = ℕ} 0 1 = cc in absurd (omega arith)
no_refusal false x y e = (refl, e)

-- where no byte is bad, each is below 128 and each carriage return has a line feed next
pub good_bytes : (at : ℕ) (s : List ℕ) → bad_byte at s ≡ None → Low s × Returned s
unfolding bad_byte
good_bytes at [] h = (tt, tt)
good_bytes at (b ∷ []) h =
    let low = no_refusal (leb 128 b) (at_place 2 at) (cond (eqb b 13) (Some (at_place 3 at)) None) h in
    ((low.0, tt), (no_refusal (eqb b 13) (at_place 3 at) None low.1).0)
good_bytes at (b ∷ (c ∷ s)) h =
    let rest = bad_byte (suc at) (c ∷ s) in
    let low = no_refusal (leb 128 b) (at_place 2 at) (cond (eqb b 13 && not (eqb c 10)) (Some (at_place 3 at)) rest) h in
    let next = no_refusal (eqb b 13 && not (eqb c 10)) (at_place 3 at) rest low.1 in
    let more = good_bytes (suc at) (c ∷ s) next.1 in
    ((low.0, more.0), (next.0, more.1))

-- the line lacks the carriage return, once one at its end is dropped
abbrev Dropped : List ℕ → Type 0
Dropped l = Lacks 13 (drop_return l)

-- a single byte does
dropped_one : (b : ℕ) → Dropped (b ∷ [])
unfolding drop_return
dropped_one b = by_test (eqb b 13) (λ e. rw e tt) (λ e. rw e (e, tt))

-- a byte other than the carriage return in front of two strings
dropped_more : (b c : ℕ) (ls : List (List ℕ)) → eqb b 13 ≡ false → Each Dropped (prepend c ls) → Each Dropped (prepend b (prepend c ls))
unfolding prepend drop_return
dropped_more b c [] e h = ((e, h.0), tt)
dropped_more b c (l ∷ ls) e h = ((e, h.0), h.1)

-- a byte in front, whatever stands behind
dropped_next : (b c : ℕ) (ls : List (List ℕ)) → (eqb b 13 && not (eqb c 10)) ≡ false → Each Dropped (cond (eqb c 10) ([] ∷ ls) (prepend c ls))
    → Each Dropped (prepend b (cond (eqb c 10) ([] ∷ ls) (prepend c ls)))
dropped_next b c ls next h =
    by_test (eqb c 10)
    (λ e. rw e (unfold prepend in (dropped_one b, (rw e at h).1)))
    (λ e. rw e (dropped_more b c ls (by_test (eqb b 13) (λ f. absurd (true≢false (rw (f, e) at next))) (λ f. f)) (rw e at h)))

-- so do the strings between the line feeds
between_dropped : (s : List ℕ) → Returned s → Each Dropped (between 10 s)
unfolding between prepend drop_return
between_dropped [] h = (tt, tt)
between_dropped (b ∷ []) h = by_test (eqb b 10) (λ e. rw e (tt, (tt, tt))) (λ e. rw e (dropped_one b, tt))
between_dropped (b ∷ (c ∷ s)) h =
    let more = between_dropped (c ∷ s) h.1 in
    by_test (eqb b 10) (λ e. rw e (tt, more)) (λ e. rw e (dropped_next b c (between 10 s) h.0 more))

-- each line of such a text lacks the carriage return
lines_unreturned : (text : List ℕ) → Returned text → Each (λ p. Lacks 13 p.bytes) (lines text)
unfolding line_of bytes_of
lines_unreturned text h =
    lines_each (λ p. Dropped p.bytes) (λ p. Lacks 13 p.bytes) (λ p k. k) text
    (each_of_map Dropped bytes_of (split 10 0 text) (rw split_between (between_dropped text h)))

-- and has bytes below 128
lines_low : (text : List ℕ) → Low text → Each (λ p. Low p.bytes) (lines text)
unfolding line_of
lines_low text h =
    lines_each (λ p. Low p.bytes) (λ p. Low p.bytes) (λ p. each_drop_return (λ b. leb 128 b ≡ false) p.bytes) text
    (parts_each (λ b. leb 128 b ≡ false) 10 0 text (each_implies (λ b k e. k) text h))

-- the three facts of the bytes of a line are one
line_bytes : (s : List ℕ) → Lacks 10 s → Lacks 13 s → Low s → LineBytes s
unfolding is_line_byte
line_bytes [] h k l = tt
line_bytes (b ∷ s) h k l = (rw (h.0, k.0, l.0), line_bytes s h.1 k.1 l.1)

-- the same of each line
all_line_bytes : (ps : List Part) → Each (λ p. Lacks 10 p.bytes) ps → Each (λ p. Lacks 13 p.bytes) ps → Each (λ p. Low p.bytes) ps
    → Each (λ p. LineBytes p.bytes) ps
all_line_bytes [] h k l = tt
all_line_bytes (p ∷ ps) h k l = (line_bytes p.bytes h.0 k.0 l.0, all_line_bytes ps h.1 k.1 l.1)

-- the lines of a text with no bad byte
pub lines_clean : (text : List ℕ) → bad_byte 0 text ≡ None → Each (λ p. LineBytes p.bytes) (lines text)
lines_clean text good =
    let h = good_bytes 0 text good in
    all_line_bytes (lines text) (lines_lack text) (lines_unreturned text h.1) (lines_low text h.0)

-- the fields of a line
pub fields_clean : (p : Part) → LineBytes p.bytes → Each (λ f. FieldBytes f.bytes) (fields p)
unfolding fields
fields_clean p h = parts_each (λ b. is_field_byte b ≡ true) 9 p.at p.bytes (each_implies line_field p.bytes h)

-- ---- and back

-- strings with a byte between each two have what the strings and the byte have
join_with_bytes : (B : ℕ → Type 0) (b : ℕ) (xs : List (List ℕ)) → B b → Each (Each B) xs → Each B (join_with b xs)
unfolding join_with
join_with_bytes B b [] s h = tt
join_with_bytes B b (x ∷ []) s h = h.0
join_with_bytes B b (x ∷ (y ∷ ys)) s h = each_append B x (b ∷ join_with b (y ∷ ys)) h.0 (s, join_with_bytes B b (y ∷ ys) s h.1)

-- fields with tabs between them are a line
pub tabbed_clean : (fs : List (List ℕ)) → Each FieldBytes fs → LineBytes (tabbed fs)
unfolding tabbed
tabbed_clean fs h = join_with_bytes (λ b. is_line_byte b ≡ true) 9 fs (unfold is_line_byte in refl) (each_implies (λ f. each_implies field_line f) fs h)

-- bytes below 128 with no carriage return among them are good
pub all_good : (at : ℕ) (s : List ℕ) → Each (λ b. (leb 128 b ≡ false) × (eqb b 13 ≡ false)) s → bad_byte at s ≡ None
unfolding bad_byte
all_good at [] h = refl
all_good at (b ∷ []) h = rw (h.0.0, h.0.1)
all_good at (b ∷ (c ∷ s)) h = rw (h.0.0, h.0.1) (all_good (suc at) (c ∷ s) h.1)

-- so a text that was written line by line has no bad byte
pub ended_good : (at : ℕ) (ls : List (List ℕ)) → Each LineBytes ls → bad_byte at (ended ls) ≡ None
unfolding ended end_line
ended_good at ls h =
    let Good : ℕ → Type 0 = λ b. (leb 128 b ≡ false) × (eqb b 13 ≡ false) in
    all_good at (ended ls)
    (each_join Good (map end_line ls)
    (each_map (Each Good) end_line ls
    (each_implies (λ l k. each_append Good l (10 ∷ []) (each_implies (λ b e. (is_low b e, no_return b e)) l k) ((refl, refl), tt)) ls h)))
