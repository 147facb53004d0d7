-- A text is refused as n exactly under the condition of n: at the first line that is refused, at the first bad byte. Assumes nothing.
use Prim.Native.Nat.{ℕ, zero, suc, ◌+◌, ◌<◌}
use native.Mathlib.Nat.{add-zero, zero-add}
use native.Mathlib.Omega.{arith}
use mathlib.Core.Bool.{true, false, not, ◌&&◌}
use mathlib.Core.List.{List, [], ◌∷◌, ◌++◌, map, append-nil, append_assoc}
use Rattle.std.specs.Prelude.{Option, None, Some}
use mathlib.Core.Path.{◌≡◌, refl, ap}
use borrow.Author.Tests.{leb-true, le-leb, eqb-true, eqb-false, eq-eqb, ne_eqb, not-true}
use lib.Dec.{eqb, leb}
use lib.ListN.{length}
use Rattle.gfa_spec.specs.Bytes.{join, Part, nth}
use Rattle.gfa_spec.specs.Reading.{Entry, Read, refused, accepted, lines, parse_line, Parsed, refused_at, parsed, id_of, after, onward, parse_lines, parse}
use Rattle.gfa_spec.specs.Calls.{Refusal, at_place, bad_byte, Input, input}
use Rattle.gfa_spec.specs.Conditions.{TextRefuses, BadAt, high, alone, ByteRefuses, NoneBad, CallRefuses, text_long, byte_bad, work_short, line_bad}
use Rattle.gfa_spec.proofs.Tests.{by_test, clash, refute, and_left, and_right, and_both}
use Rattle.gfa_spec.proofs.Texts.{Reads, parse_reads, ids_segments}
use Rattle.gfa_spec.proofs.Admission.{InputRefuses, too_long, bad_byte_refused, little_work, bad_line, input_refused, refused_input}
use Rattle.gfa_spec.proofs.ConditionsLine.{line_refused, refused_line}

-- ---- a text

-- What a refusal of lines says, the first of this number, behind segments with the given IDs: the line that is refused, and what was read before it.
record LinesRefuse (number : ℕ) (ids : List (List ℕ)) (ps : List Part) (n at : ℕ) : Type 0 where
  pub earlier : List Part
  pub line : Part
  pub later : List Part
  pub entries : List Entry
  pub standing : ps ≡ earlier ++ (line ∷ later)
  pub counted : at ≡ number + length earlier
  pub reads : parse_lines number ids earlier ≡ parsed entries
  pub refuses : parse_line (ids ++ join (map id_of entries)) line ≡ refused n

-- what is refused behind an entry is refused
after_refused : (e : Entry) (r : Parsed) (n at : ℕ) → after e r ≡ refused_at n at → r ≡ refused_at n at
unfolding after
after_refused e (refused_at m line) n at h = h
after_refused e (parsed es) n at h = let z : ◌≡◌ {A = ℕ} 0 1 = cc in absurd (omega arith)

-- refused lines are refused at one of them, and each before it is read
lines_refused : (number : ℕ) (ids : List (List ℕ)) (ps : List Part) (n at : ℕ) → parse_lines number ids ps ≡ refused_at n at → LinesRefuse number ids ps n at
unfolding parse_lines onward after join
lines_refused number ids [] n at e = let z : ◌≡◌ {A = ℕ} 0 1 = cc in absurd (omega arith)
lines_refused number ids (p ∷ ps) n at e = go (parse_line ids p) refl (λ d. lines_refused (suc number) (ids ++ id_of d) ps n at) e
  where
    go : (r : Read Entry) → parse_line ids p ≡ r
        → ((d : Entry) → parse_lines (suc number) (ids ++ id_of d) ps ≡ refused_at n at → LinesRefuse (suc number) (ids ++ id_of d) ps n at)
        → onward number r (λ d. parse_lines (suc number) (ids ++ id_of d) ps) ≡ refused_at n at → LinesRefuse number ids (p ∷ ps) n at
    go (refused m) q more e =
        let same : m ≡ n = cc in
        let here : number ≡ at = cc in
        record { earlier = []; line = p; later = ps; entries = []; standing = refl; counted = omega arith; reads = refl; refuses = rw append-nil (rw same at q) }
    go (accepted d) q more e =
        let w = more d (after_refused d (parse_lines (suc number) (ids ++ id_of d) ps) n at e) in
        record {
          earlier = p ∷ w.earlier;
          line = w.line;
          later = w.later;
          entries = d ∷ w.entries;
          standing = ap (λ l. p ∷ l) w.standing;
          counted = omega arith;
          reads = rw (q, w.reads);
          refuses = rw (← append_assoc ids (id_of d) (join (map id_of w.entries))) w.refuses;
        }

-- lines that are read, and then one that is refused
refused_lines : (number : ℕ) (ids : List (List ℕ)) (earlier : List Part) (es : List Entry) (line : Part) (later : List Part) (n : ℕ)
    → Reads ids earlier es → parse_line (ids ++ join (map id_of es)) line ≡ refused n
    → parse_lines number ids (earlier ++ (line ∷ later)) ≡ refused_at n (number + length earlier)
unfolding parse_lines onward after join
refused_lines number ids [] [] line later n h e = rw (add-zero, rw append-nil at e)
refused_lines number ids [] (d ∷ ds) line later n h e = absurd h
refused_lines number ids (p ∷ ps) [] line later n h e = absurd h
refused_lines number ids (p ∷ ps) (d ∷ ds) line later n h e =
    let count : suc number + length ps ≡ number + suc (length ps) = omega arith in
    rw (h.0, refused_lines (suc number) (ids ++ id_of d) ps ds line later n h.1 (rw append_assoc e), count)

-- a text is refused at a line under the condition of the number only
pub parse_refused : (text : List ℕ) (n at : ℕ) → parse text ≡ refused_at n at → TextRefuses text n at
unfolding parse
parse_refused text n at e =
    let w = lines_refused 1 [] (lines text) n at e in
    record {
      earlier = w.earlier;
      line = w.line;
      later = w.later;
      entries = w.entries;
      standing = w.standing;
      counted = omega arith;
      reads = w.reads;
      why = line_refused _ w.line n (rw ids_segments at w.refuses);
    }

-- and under its condition it is refused
pub refused_parse : (text : List ℕ) (n at : ℕ) → TextRefuses text n at → parse text ≡ refused_at n at
unfolding parse
refused_parse text n at w =
    let count : at ≡ 1 + length w.earlier = omega arith in
    let e = refused_line _ w.line n w.why in
    rw (w.standing, count)
    (refused_lines 1 [] w.earlier w.entries w.line w.later n (parse_reads 1 [] w.earlier w.entries w.reads) (rw (← ids_segments w.entries) at e))

-- ---- a byte

-- a bad byte with a byte more in front
bad_behind : {s : List ℕ} {n k : ℕ} (b : ℕ) → BadAt s n k → BadAt (b ∷ s) n (suc k)
unfolding nth
bad_behind b (high k h) = high (suc k) h
bad_behind b (alone k h l) = alone (suc k) h l

-- and without it
bad_tail : (b : ℕ) (s : List ℕ) (n k : ℕ) → BadAt (b ∷ s) n (suc k) → BadAt s n k
unfolding nth
bad_tail b s n k (high j h) = high k h
bad_tail b s n k (alone j h l) = alone k h l

-- no byte behind the end is bad
bad_none : {n k : ℕ} → BadAt [] n k → ⊥
unfolding nth
bad_none (high k h) = omega arith
bad_none (alone k h l) = let z : ◌≡◌ {A = ℕ} 0 13 = h in omega arith

-- a carriage return at the front, not followed by a line feed
front_alone : (b c : ℕ) (s : List ℕ) → (eqb b 13 && not (eqb c 10)) ≡ true → BadAt (b ∷ (c ∷ s)) 3 0
unfolding nth
front_alone b c s k =
    alone 0 (eqb-true b 13 (and_left (eqb b 13) (not (eqb c 10)) k)) (eqb-false c 10 (not-true (eqb c 10) (and_right (eqb b 13) (not (eqb c 10)) k)))

-- a carriage return at the end
end_alone : (b : ℕ) → eqb b 13 ≡ true → BadAt (b ∷ []) 3 0
unfolding nth
end_alone b k = alone 0 (eqb-true b 13 k) (λ z. omega arith)

-- a byte of 128 or more at the front
front_high : (b : ℕ) (s : List ℕ) → leb 128 b ≡ true → BadAt (b ∷ s) 2 0
unfolding nth
front_high b s h = let l = leb-true 128 b h in high 0 (omega arith)

-- the tests of a first byte that is not bad fail
good_first : (b c : ℕ) (s : List ℕ) → ((m : ℕ) → BadAt (b ∷ (c ∷ s)) m 0 → ⊥) → (leb 128 b ≡ false) × ((eqb b 13 && not (eqb c 10)) ≡ false)
good_first b c s f =
    (refute (leb 128 b) (λ t. f 2 (front_high b (c ∷ s) t)), refute (eqb b 13 && not (eqb c 10)) (λ t. f 3 (front_alone b c s t)))

-- a first byte whose tests fail is not bad
first_good : (b c : ℕ) (s : List ℕ) (m : ℕ) → leb 128 b ≡ false → (eqb b 13 && not (eqb c 10)) ≡ false → BadAt (b ∷ (c ∷ s)) m 0 → ⊥
unfolding nth
first_good b c s m h k (high j l) = clash (le-leb 128 b (omega arith)) h
first_good b c s m h k (alone j e f) = clash (and_both (eqb b 13) (not (eqb c 10)) (eq-eqb b 13 e) (rw (ne_eqb c 10 f))) k

-- the first bad byte, with a byte in front that is not bad
refuses_behind : (b : ℕ) (s : List ℕ) (n k : ℕ) → ((m : ℕ) → BadAt (b ∷ s) m 0 → ⊥) → ByteRefuses s n k → ByteRefuses (b ∷ s) n (suc k)
refuses_behind b s n k good w = record { bad = bad_behind b w.bad; first = go }
  where
    go : (m j : ℕ) → j < suc k → BadAt (b ∷ s) m j → ⊥
    go m zero l h = good m h
    go m (suc j) l h = w.first m j (omega arith) (bad_tail b s m j h)

-- and without it
refuses_tail : (b : ℕ) (s : List ℕ) (n k : ℕ) → ByteRefuses (b ∷ s) n (suc k) → ByteRefuses s n k
refuses_tail b s n k w = record { bad = bad_tail b s n k w.bad; first = λ m j l h. w.first m (suc j) (omega arith) (bad_behind b h) }

-- a bad byte at the front
refuses_front : (s : List ℕ) (n : ℕ) → BadAt s n 0 → ByteRefuses s n 0
refuses_front s n h = record { bad = h; first = λ m k l x. omega arith }

-- What a refused byte says, where the first byte is at `at`: it is bad, and the first that is.
record RefusesFrom (at : ℕ) (s : List ℕ) (r : Refusal) : Type 0 where
  pub number : ℕ
  pub offset : ℕ
  pub is : r ≡ at_place number (at + offset)
  pub why : ByteRefuses s number offset

-- the byte at the front
from_front : (at : ℕ) (s : List ℕ) (r : Refusal) (n : ℕ) → BadAt s n 0 → Some (at_place n at) ≡ Some r → RefusesFrom at s r
from_front at s r n h e =
    let given : r ≡ at_place n at = cc in
    record { number = n; offset = 0; is = rw add-zero given; why = refuses_front s n h }

-- a byte behind a front that is not bad
from_behind : (at b : ℕ) (s : List ℕ) (r : Refusal) → ((m : ℕ) → BadAt (b ∷ s) m 0 → ⊥) → RefusesFrom (suc at) s r → RefusesFrom at (b ∷ s) r
from_behind at b s r good w =
    let count : suc at + w.offset ≡ at + suc w.offset = omega arith in
    record { number = w.number; offset = suc w.offset; is = rw count at w.is; why = refuses_behind b s w.number w.offset good w.why }

-- a refused byte is bad, and the first that is
byte_refused : (at : ℕ) (s : List ℕ) (r : Refusal) → bad_byte at s ≡ Some r → RefusesFrom at s r
unfolding bad_byte
byte_refused at [] r e = let z : ◌≡◌ {A = ℕ} 0 1 = cc in absurd (omega arith)
byte_refused at (b ∷ []) r e =
    by_test (leb 128 b)
    (λ h. from_front at (b ∷ []) r 2 (front_high b [] h) (rw h at e))
    (λ h. by_test (eqb b 13)
    (λ k. from_front at (b ∷ []) r 3 (end_alone b k) (rw (h, k) at e))
    (λ k. let z : ◌≡◌ {A = ℕ} 0 1 = cc (rw (h, k) at e) in absurd (omega arith)))
byte_refused at (b ∷ (c ∷ s)) r e =
    by_test (leb 128 b)
    (λ h. from_front at (b ∷ (c ∷ s)) r 2 (front_high b (c ∷ s) h) (rw h at e))
    (λ h. by_test (eqb b 13 && not (eqb c 10))
    (λ k. from_front at (b ∷ (c ∷ s)) r 3 (front_alone b c s k) (rw (h, k) at e))
    (λ k. from_behind at b (c ∷ s) r (λ m. first_good b c s m h k) (byte_refused (suc at) (c ∷ s) r (rw (h, k) at e))))

-- a bad byte at the front is refused
front_refused : (at : ℕ) (s : List ℕ) (n : ℕ) → BadAt s n 0 → bad_byte at s ≡ Some (at_place n at)
unfolding bad_byte nth
front_refused at [] n h = absurd (bad_none h)
front_refused at (b ∷ []) n (high k l) = rw (le-leb 128 b (omega arith))
front_refused at (b ∷ []) n (alone k e f) = rw e
front_refused at (b ∷ (c ∷ s)) n (high k l) = rw (le-leb 128 b (omega arith))
front_refused at (b ∷ (c ∷ s)) n (alone k e f) = rw (e, ne_eqb c 10 f)

-- the first bad byte is refused
refused_byte : (at : ℕ) (s : List ℕ) (n k : ℕ) → ByteRefuses s n k → bad_byte at s ≡ Some (at_place n (at + k))
unfolding bad_byte
refused_byte at s n zero w = rw add-zero (front_refused at s n w.bad)
refused_byte at [] n (suc k) w = absurd (bad_none w.bad)
refused_byte at (b ∷ []) n (suc k) w = absurd (bad_none (bad_tail b [] n k w.bad))
refused_byte at (b ∷ (c ∷ s)) n (suc k) w =
    let (h, t) = good_first b c s (λ m. w.first m 0 (omega arith)) in
    let count : suc at + k ≡ at + suc k = omega arith in
    rw (h, t, refused_byte (suc at) (c ∷ s) n k (refuses_tail b (c ∷ s) n k w), count)

-- a text is refused from an offset under the condition of the number only
pub bad_refused : (text : List ℕ) (r : Refusal) → bad_byte 0 text ≡ Some r → (n : ℕ) × (from : ℕ) × (r ≡ at_place n from) × ByteRefuses text n from
bad_refused text r e = let w = byte_refused 0 text r e in (w.number, w.offset, rw zero-add at w.is, w.why)

-- and under its condition it is refused
pub refused_bad : (text : List ℕ) (n from : ℕ) → ByteRefuses text n from → bad_byte 0 text ≡ Some (at_place n from)
refused_bad text n from w = rw zero-add at (refused_byte 0 text n from w)

-- where no byte is refused, that at the front is not bad
front_good : (at : ℕ) (s : List ℕ) → bad_byte at s ≡ None → (m : ℕ) → BadAt s m 0 → ⊥
front_good at s e m h = let z : ◌≡◌ {A = ℕ} 0 1 = cc (front_refused at s m h) in omega arith

-- nor is any other
none_refused : (at : ℕ) (s : List ℕ) → bad_byte at s ≡ None → NoneBad s
unfolding bad_byte
none_refused at s e n zero h = front_good at s e n h
none_refused at [] e n (suc k) h = bad_none h
none_refused at (b ∷ []) e n (suc k) h = bad_none (bad_tail b [] n k h)
none_refused at (b ∷ (c ∷ s)) e n (suc k) h =
    let (low, joined) = good_first b c s (front_good at (b ∷ (c ∷ s)) e) in
    none_refused (suc at) (c ∷ s) (rw (low, joined) at e) n k (bad_tail b (c ∷ s) n k h)

-- and where none is bad, none is refused
none_bad : (text : List ℕ) → NoneBad text → bad_byte 0 text ≡ None
none_bad text good = go (bad_byte 0 text) refl
  where
    go : (o : Option Refusal) → bad_byte 0 text ≡ o → o ≡ None
    go None e = refl
    go (Some r) e = let (n, from, is, w) = bad_refused text r e in absurd (good n from w.bad)

-- ---- a call

-- a call is refused under its condition in the table only
pub call_refused : (text : List ℕ) (work : ℕ) (r : Refusal) → input text work ≡ Input.refusal r → CallRefuses text work r
call_refused text work r e = go r (input_refused text work r e)
  where
    go : (r : Refusal) → InputRefuses text work r → CallRefuses text work r
    go r (too_long long) = text_long long
    go r (bad_byte_refused short b) = let (n, from, is, w) = bad_refused text r b in rw is (byte_bad n from short w)
    go r (little_work short clean little) = work_short short (none_refused 0 text clean) little
    go r (bad_line n line short clean enough q) = line_bad n line short (none_refused 0 text clean) enough (parse_refused text n line q)

-- and under its condition it is refused
pub refused_call : (text : List ℕ) (work : ℕ) (r : Refusal) → CallRefuses text work r → input text work ≡ Input.refusal r
refused_call text work r h = refused_input text work (go r h)
  where
    go : (r : Refusal) → CallRefuses text work r → InputRefuses text work r
    go r (text_long long) = too_long long
    go r (byte_bad n from short w) = bad_byte_refused short (refused_bad text n from w)
    go r (work_short short clean little) = little_work short (none_bad text clean) little
    go r (line_bad n number short clean enough w) = bad_line n number short (none_bad text clean) enough (refused_parse text n number w)
