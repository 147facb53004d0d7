-- What a call answers, refused or given, and what it leaves behind. Assumes nothing.
use Prim.Native.Nat.{ℕ, ◌+◌, ◌≤◌, ◌<◌}
use native.Mathlib.Omega.{arith}
use mathlib.Core.List.{List, ◌++◌}
use mathlib.Core.Path.{◌≡◌, refl, sym, ap, ◌∙◌}
use lib.ListN.{length, drop, replicate}
use Rattle.std.specs.Prelude.{Result, Ok, Err}
use Rattle.refusals.specs.declared.refusal.Refusal.{Refusal}
use Rattle.refusals.specs.Refusals.{stated}
use Rattle.writers.specs.declared.writer.Writer.{Writer}
use Rattle.writers.specs.Writers.{Wrote, Starts, Puts}
use Rattle.writers.proofs.Writing.{measured, measured_long, written}
use Rattle.tables.specs.declared.tables.Bases.{Bases}
use Rattle.tables.specs.declared.tables.Counts.{Counts}
use Rattle.tables.specs.Tables.{Readable}
use Rattle.tables.proofs.Standing.{readable}
use Rattle.reader.specs.declared.answers.Answer.{Answer}
use Rattle.gfa_spec.specs.Calls.{Outcome, answer, plainly, fitted}
use Rattle.gfa_spec.proofs.Answered.{answer_fitted, refused_fitted}
use Rattle.reader.specs.Inputs.{InputRead, InputIs}
use Rattle.reader.specs.Served.{answer_of, output_of, answer_in, Answered, Served}

-- a refusal: all of its fields are returned, and the output is as it was
pub refuses : {out : List ℕ} (q : Refusal) (o : Outcome) → o ≡ Outcome.refusal (stated q) → Answered out out (answer_in (Err q)) o
unfolding answer_of output_of
refuses q o e = rw e (record { answer = refl; output = refl })

-- an answer: its length is returned, and it stands in front of what was there
pub gives : {out out' : List ℕ} {n : ℕ} (bs : List ℕ) (o : Outcome) → o ≡ answer bs → n ≡ length bs → out' ≡ bs ++ drop (length bs) out → Answered out out' (answer_in (Ok n)) o
unfolding answer_of output_of
gives bs o e f u = rw (e, f) (record { answer = refl; output = u })

-- ---- measured on an empty buffer, and then refused or written

-- what a writer put from the front of a buffer
pub begun : {v w : Writer} {out piece : List ℕ} {limit : ℕ} → Starts out limit v → Puts v piece w → Wrote limit out 0 piece w.out.now w.at
begun s p = rw (s.limit, s.front, s.bytes) at p.wrote

module _ {v w : Writer} {blank out bs : List ℕ} (s : Starts blank (length out + 1) v) (p : Puts v bs w) where
  -- there is no room
  pub full : (q : Refusal) → length out < w.at → stated q ≡ plainly 22 → Answered out out (answer_in (Err q)) (fitted (length out) bs)
  full q h e = refuses q (fitted (length out) bs) (refused_fitted (length out) bs (measured_long (begun s p) h) ∙ ap Outcome.refusal (sym e))

  -- there is
  pub fits : {x y : Writer} {out' : List ℕ} → w.at ≤ length out → Starts out (length out + 1) x → Puts x bs y → out' ≡ y.out.now
      → Answered out out' (answer_in (Ok w.at)) (fitted (length out) bs)
  fits h t q i =
      let long : w.at ≡ length bs = measured (begun s p) h in
      gives bs (fitted (length out) bs) (answer_fitted (length out) bs (omega arith)) long (i ∙ written (omega arith) (omega arith) (begun t q))

-- ---- what is left behind

-- a call that cleared the work area, however it was left
pub served : {out out' work' : List ℕ} {size : ℕ} {r : Answer} {o : Outcome} (k : Result ℕ Refusal) (mid : List ℕ) → Answered out out' (answer_in k) o → r ≡ answer_in k
    → work' ≡ replicate (length mid) 0 → length mid ≡ size → Served out out' size work' r o
served k mid h f e l = record { answer = f ∙ h.answer; output = h.output; cleared = e ∙ rw l }

-- the tables that were read
pub was_read : {text before work : List ℕ} {r : Result (Bases × Counts) Refusal} {b : Bases} {n : Counts} → InputIs text before work r → r ≡ Ok (b, n) → InputRead text before work b n
was_read h e = rw e at h.says

pub input_readable : {text before work : List ℕ} {r : Result (Bases × Counts) Refusal} {b : Bases} {n : Counts} → InputIs text before work r → r ≡ Ok (b, n) → Readable text work b n
input_readable h e = readable (was_read h e).tables
