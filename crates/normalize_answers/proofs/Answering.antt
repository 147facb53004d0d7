-- What a normalization answers: a refusal, or the text with its statistics. Assumes nothing.
use Prim.Native.Nat.{ℕ, ◌+◌, ◌≤◌, ◌<◌}
use native.Mathlib.Omega.{arith}
use mathlib.Core.List.{List, ◌++◌}
use mathlib.Core.Path.{◌≡◌, refl, ◌∙◌}
use lib.ListN.{length, drop}
use borrow.Author.Tests.{lt-ltb, le-ltb}
use Rattle.std.specs.Prelude.{Result, Ok, Err}
use Rattle.std.proofs.lemmas.List.Edits.{sets-eq}
use Rattle.writers.specs.Writers.{Wrote}
use Rattle.writers.proofs.Writing.{stored}
use Rattle.refusals.specs.declared.refusal.Refusal.{Refusal}
use Rattle.refusals.specs.Refusals.{stated}
use Rattle.gfa_spec.specs.Calls.{plainly}
use Rattle.normalize_spec.specs.Counting.{Stats}
use Rattle.normalize_spec.specs.Services.{Normal, normal, normal_fitted}
use Rattle.reader.specs.Served.{answer_of, output_of}
use Rattle.normalize_answers.specs.declared.returning.NormalizeSelfLoopsResult.{NormalizeSelfLoopsResult}
use Rattle.normalize_answers.specs.declared.written.Written.{Written}
use Rattle.normalize_answers.specs.Counters.{counters}
use Rattle.normalize_answers.specs.Answered.{outcome_of, stats_of, ReturnedIs, NormalTold, NormalAnswered}

-- a refusal: all of its fields are returned, every counter is 0, and the output is as it was
pub refuses : {out : List ℕ} (q : Refusal) (o : Normal) → o ≡ Normal.refusal (stated q) → NormalTold out out (Err q) o
unfolding outcome_of stats_of answer_of output_of
refuses q o e = rw e (record { answer = refl; stats = refl; output = refl })

-- an answer: its length is returned with its counters, and it stands in front of what was there
pub gives : {out out' : List ℕ} {w : Written} (bs : List ℕ) (st : Stats) (o : Normal) → o ≡ normal bs st → w.length ≡ length bs → counters w.stats ≡ st
    → out' ≡ bs ++ drop (length bs) out → NormalTold out out' (Ok w) o
unfolding outcome_of stats_of answer_of output_of
gives bs st o e f s u = rw (e, f) (record { answer = refl; stats = s; output = u })

-- no room for the answer
pub no_room : {out : List ℕ} (q : Refusal) (bs : List ℕ) (st : Stats) → length out < length bs → stated q ≡ plainly 22 → NormalTold out out (Err q) (normal_fitted (length out) (normal bs st))
unfolding normal_fitted
no_room {out} q bs st l e = refuses q (normal_fitted (length out) (normal bs st)) (rw (lt-ltb (length out) (length bs) l, e))

-- room for it
pub room : {out out' : List ℕ} {w : Written} (bs : List ℕ) (st : Stats) → length bs ≤ length out → w.length ≡ length bs → counters w.stats ≡ st
    → out' ≡ bs ++ drop (length bs) out → NormalTold out out' (Ok w) (normal_fitted (length out) (normal bs st))
unfolding normal_fitted
room {out} bs st l f s u = gives bs st (normal_fitted (length out) (normal bs st)) (rw (le-ltb (length out) (length bs) l)) f s u

-- it stands in front, and what stood behind it stays
pub in_front : {out out' : List ℕ} {next : ℕ} (bs : List ℕ) → length bs ≤ length out → Wrote (length bs) out 0 bs out' next → out' ≡ bs ++ drop (length bs) out
in_front {out} bs h w =
    let e : 0 + length bs ≡ length bs = omega arith in
    stored (omega arith) w ∙ rw e at (sets-eq bs out 0 (omega arith))

-- it is returned
pub returned : {out out' : List ℕ} {r : NormalizeSelfLoopsResult} {o : Normal} (k : Result Written Refusal) → NormalTold out out' k o → ReturnedIs k r → NormalAnswered out out' r o
returned k h i = record { answer = i.answer ∙ h.answer; stats = i.stats ∙ h.stats; output = h.output }
