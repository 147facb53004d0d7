-- When a call is admitted, and when it is refused before anything is answered. Assumes nothing.
use Prim.Native.Nat.{ℕ, ◌+◌, ◌*◌, ◌≤◌, ◌<◌}
use native.Mathlib.Omega.{arith}
use mathlib.Core.List.{List}
use Rattle.std.specs.Prelude.{Option, None, Some}
use mathlib.Core.Path.{◌≡◌, refl, sym}
use lib.Dec.{ltb}
use lib.ListN.{length}
use borrow.Author.Tests.{ltb-true, ltb-false, lt-ltb, le-ltb}
use Rattle.gfa_spec.specs.Reading.{Entry, Parsed, refused_at, parsed, parse}
use Rattle.gfa_spec.specs.Calls.{Refusal, plainly, on_line, bad_byte, Input, entries, of_parsed, of_bytes, input}
use Rattle.gfa_spec.proofs.Tests.{by_test}

-- ---- a call that is admitted

-- a refusal is no entries
not_entries : {r : Refusal} {es : List Entry} → Input.refusal r ≡ entries es → ⊥
not_entries e = let z : ◌≡◌ {A = ℕ} 0 1 = cc in omega arith

-- What an accepted call says of its text.
pub record Admitted (text : List ℕ) (work : ℕ) (es : List Entry) : Type 0 where
  pub short : length text ≤ 1048576
  pub clean : bad_byte 0 text ≡ None
  pub enough : 4 * length text + 64 ≤ work
  pub reads : parse text ≡ parsed es

-- a text that was parsed
parsed_entries : (r : Parsed) (es : List Entry) → of_parsed r ≡ entries es → r ≡ parsed es
unfolding of_parsed
parsed_entries (refused_at n line) es e = absurd (not_entries e)
parsed_entries (parsed ds) es e = cc

-- a text whose bytes are good
bytes_entries : (o : Option Refusal) (text : List ℕ) (work : ℕ) (es : List Entry) → of_bytes o text work ≡ entries es
    → (o ≡ None) × (4 * length text + 64 ≤ work) × (parse text ≡ parsed es)
unfolding of_bytes
bytes_entries (Some r) text work es e = absurd (not_entries e)
bytes_entries None text work es e =
    by_test (ltb work (4 * length text + 64))
    (λ h. absurd (not_entries (rw h at e)))
    (λ h. (refl, ltb-false work (4 * length text + 64) h, parsed_entries (parse text) es (rw h at e)))

-- an accepted call
pub input_entries : (text : List ℕ) (work : ℕ) (es : List Entry) → input text work ≡ entries es → Admitted text work es
unfolding input
input_entries text work es e =
    by_test (ltb 1048576 (length text))
    (λ h. absurd (not_entries (rw h at e)))
    (λ h. let (clean, enough, reads) = bytes_entries (bad_byte 0 text) text work es (rw h at e) in
    record { short = ltb-false 1048576 (length text) h; clean = clean; enough = enough; reads = reads })

-- and such a call is accepted
pub entries_input : (text : List ℕ) (work : ℕ) (es : List Entry) → Admitted text work es → input text work ≡ entries es
unfolding input
entries_input text work es a =
    rw (le-ltb 1048576 (length text) a.short, a.clean) (unfold of_bytes in rw (le-ltb work (4 * length text + 64) a.enough, a.reads) (unfold of_parsed in refl))

-- ---- a call that is refused

-- Why a call is refused, in the order of the tests.
pub data InputRefuses (text : List ℕ) (work : ℕ) : Refusal → Type 0 where
  too_long : 1048576 < length text → InputRefuses text work (plainly 1)
  bad_byte_refused : {r : Refusal} → length text ≤ 1048576 → bad_byte 0 text ≡ Some r → InputRefuses text work r
  little_work : length text ≤ 1048576 → bad_byte 0 text ≡ None → work < 4 * length text + 64 → InputRefuses text work (plainly 4)
  bad_line : (n line : ℕ) → length text ≤ 1048576 → bad_byte 0 text ≡ None → 4 * length text + 64 ≤ work → parse text ≡ refused_at n line
      → InputRefuses text work (on_line n line)

module _ (text : List ℕ) (work : ℕ) (r : Refusal) where
  -- a refusal that is given is the one at hand
  refusal_given : {q : Refusal} → InputRefuses text work q → Input.refusal q ≡ Input.refusal r → InputRefuses text work r
  refusal_given {q} h e = let same : q ≡ r = cc in rw same at h

  -- a text that was not parsed
  parsed_refused : (p : Parsed) → length text ≤ 1048576 → bad_byte 0 text ≡ None → 4 * length text + 64 ≤ work → parse text ≡ p → of_parsed p ≡ Input.refusal r
      → InputRefuses text work r
  unfolding of_parsed
  parsed_refused (refused_at n line) short clean enough q e = refusal_given (bad_line n line short clean enough q) e
  parsed_refused (parsed es) short clean enough q e = absurd (not_entries (sym e))

  -- a text whose bytes were looked at
  bytes_refused : (o : Option Refusal) → length text ≤ 1048576 → bad_byte 0 text ≡ o → of_bytes o text work ≡ Input.refusal r → InputRefuses text work r
  unfolding of_bytes
  bytes_refused (Some q) short b e = refusal_given (bad_byte_refused short b) e
  bytes_refused None short b e =
      by_test (ltb work (4 * length text + 64))
      (λ h. refusal_given (little_work short b (ltb-true work (4 * length text + 64) h)) (rw h at e))
      (λ h. parsed_refused (parse text) short b (ltb-false work (4 * length text + 64) h) refl (rw h at e))

  -- a call is refused under its condition only
  pub input_refused : input text work ≡ Input.refusal r → InputRefuses text work r
  unfolding input
  input_refused e =
      by_test (ltb 1048576 (length text))
      (λ h. refusal_given (too_long (ltb-true 1048576 (length text) h)) (rw h at e))
      (λ h. bytes_refused (bad_byte 0 text) (ltb-false 1048576 (length text) h) refl (rw h at e))

-- and under its condition it is refused
pub refused_input : (text : List ℕ) (work : ℕ) {r : Refusal} → InputRefuses text work r → input text work ≡ Input.refusal r
unfolding input of_bytes of_parsed
refused_input text work (too_long long) = rw (lt-ltb 1048576 (length text) long)
refused_input text work (bad_byte_refused short b) = rw (le-ltb 1048576 (length text) short, b)
refused_input text work (little_work short clean little) = rw (le-ltb 1048576 (length text) short, clean, lt-ltb work (4 * length text + 64) little)
refused_input text work (bad_line n line short clean enough q) = rw (le-ltb 1048576 (length text) short, clean, le-ltb work (4 * length text + 64) enough, q)
