-- What is shown of a service's answer is what is to be printed. Assumes nothing.
use Prim.Native.Nat.{ℕ, ◌+◌, ◌-◌, ◌≤◌}
use native.Mathlib.Omega.{arith}
use mathlib.Core.Bool.{Bool, true, false}
use mathlib.Core.List.{List, [], ◌∷◌, ◌++◌, append-nil}
use mathlib.Core.Path.{◌≡◌, refl, sym, ap, ◌∙◌}
use lib.ListN.{length, take, drop, length-take, length-append}
use lib.Seq.{sets-eq, take_all, take-append_seam}
use Rattle.gfa_spec.specs.Calls.{Refusal, plainly, Outcome, answer}
use Rattle.gfa_spec.specs.Bytes.{bytes, end_line}
use Rattle.gfa_spec.specs.Decimal.{decimal}
use Rattle.writers.specs.declared.writer.Writer.{Writer}
use Rattle.writers.specs.Writers.{Wrote, Starts, Puts}
use Rattle.writers.proofs.Writing.{keeps}
use Rattle.reader.specs.declared.answers.Answer.{Answer}
use Rattle.std.specs.Prelude.{Err, ltb}
use Rattle.refusals.specs.declared.refusal.Refusal as refusal
use Rattle.refusals.specs.Refusals.{stated}
use Rattle.reader.specs.Served.{answer_of, answer_in, output_of}
use Rattle.console.specs.Printed.{number_line, refusal_text, printed, limited, LongText, Prints, ShownIs}

-- the lines of a refusal, written at the front of a buffer
pub put_lines : {v w : Writer} {out out' : List ℕ} (a : Answer) → Starts out (length out) v
    → Puts v (end_line (bytes "refused" ++ (61 ∷ decimal a.number)) ++ (end_line (bytes "line" ++ (61 ∷ decimal a.line)) ++ (end_line (bytes "from" ++ (61 ∷ decimal a.from)) ++ (end_line (bytes "length" ++ (61 ∷ decimal a.length)) ++ [])))) w
    → out' ≡ w.out.now → Wrote (length out) out 0 (refusal_text a) out' w.at
unfolding refusal_text number_line
put_lines {out = out} a s p e = rw e (simp append-nil at (rw (s.limit, s.front, s.bytes) at p.wrote))

-- a text at the front of a buffer, cut where the buffer ends
front : {out out' p : List ℕ} {n : ℕ} → Wrote (length out) out 0 p out' n → take n out' ≡ take (length out') p
front {out} {out'} {p} {n} w =
    let all : length out - 0 ≡ length out = omega arith in
    let cut : List ℕ = take (length out) p in
    let long = length-take (length out) p in
    let end : n ≡ length cut = omega (arith, w.place) in
    let stands : out' ≡ cut ++ drop (0 + length cut) out = w.bytes ∙ rw all (sets-eq cut out 0 (omega arith)) in
    rw (keeps w, end, stands, take-append_seam)

-- the lines of a refusal
pub prints_refusal : {out out' : List ℕ} {n : ℕ} (r : Refusal) (o : Outcome) → o ≡ Outcome.refusal r
    → Wrote (length out) out 0 (refusal_text (record { number = r.number; line = r.line; from = r.from; length = r.length })) out' n → Prints out' n o
unfolding printed
prints_refusal r o e w = rw e (record { bytes = front w; inside = omega (arith, w.place, keeps w) })

-- an answer of which it is known that a refusal has a number
pub prints_answer : (out : List ℕ) {mid out' : List ℕ} {a : Answer} {n : ℕ} (o : Outcome) → ((r : Refusal) → o ≡ Outcome.refusal r → 1 ≤ r.number)
    → a ≡ answer_of o → mid ≡ output_of out o → ShownIs mid out' a n → Prints out' n o
unfolding answer_of output_of printed
prints_answer out (Outcome.refusal r) h e m s = prints_refusal r (Outcome.refusal r) refl (rw e at (s.refused (λ z. omega (arith, h r refl, ap (λ x. x.number) e))))
prints_answer out {mid} {out'} {a} {n} (answer bs) h e m s =
    let (same, count) = s.accepted (ap (λ x. x.number) e) in
    let long : n ≡ length bs = count ∙ ap (λ x. x.length) e in
    let room : length bs ≤ length (bs ++ drop (length bs) out) = omega (arith, length-append bs (drop (length bs) out)) in
    record { bytes = rw (long, same, m, take-append_seam) (sym (take_all (length (bs ++ drop (length bs) out)) bs room)); inside = rw (long, same, m) room }

-- the refusal of a text that is too long
long_lines : {out out' : List ℕ} {n : ℕ} (r : Refusal) → r ≡ plainly 1
    → Wrote (length out) out 0 (refusal_text (record { number = r.number; line = r.line; from = r.from; length = r.length })) out' n → LongText out out' n
unfolding printed
long_lines r e w = record { lines = rw e at w }

pub refused_long : {out out' : List ℕ} {n : ℕ} {a : Answer} (q : refusal.Refusal) → stated q ≡ plainly 1 → a ≡ answer_in (Err q)
    → Wrote (length out) out 0 (refusal_text a) out' n → LongText out out' n
refused_long q e f w = long_lines (stated q) e (rw f at w)

-- a text of more than 2,048 bytes
pub prints_long : (text : List ℕ) {out out' : List ℕ} {n : ℕ} (o : Outcome) {r : Bool} → r ≡ ltb 2048 (length text) → r ≡ true → LongText out out' n → Prints out' n (limited text o)
unfolding limited printed
prints_long text o e f w = prints_refusal (plainly 1) (limited text o) (rw (← e, f)) w.lines

-- and any other
pub prints_limited : (text : List ℕ) {out' : List ℕ} {n : ℕ} (o : Outcome) {r : Bool} → r ≡ ltb 2048 (length text) → r ≡ false → Prints out' n o → Prints out' n (limited text o)
unfolding limited
prints_limited text o e f p = rw (← e, f) p
