-- Demand 3 at the service: what an answered call keeps, and what two of them have in common. Assumes nothing.
use Prim.Native.Nat.{ℕ}
use native.Mathlib.Omega.{arith}
use mathlib.Core.Bool.{true}
use mathlib.Core.List.{List}
use mathlib.Core.Path.{◌≡◌, refl, ap, ◌∙◌}
use lib.ListN.{length, take, replicate}
use lib.Seq.{take-append_seam}
use Rattle.normalize_spec.specs.Counting.{Stats}
use Rattle.normalize_spec.specs.Services.{Normal, normal, normalize}
use Rattle.normalize_spec.specs.Guarantees.{looser}
use Rattle.normalize_spec.proofs.Service.{normalize_sound, normalize_monotone}
use Rattle.normalize_spec.proofs.ServiceRefusals.{normalize_numbers}
use Rattle.reader.specs.Served.{answer_of, output_of}
use Rattle.normalize_answers.specs.declared.returning.NormalizeSelfLoopsResult.{NormalizeSelfLoopsResult}
use Rattle.normalize_answers.specs.Counters.{counters}
use Rattle.normalize_answers.specs.Answered.{outcome_of, stats_of, ReturnedIs, NormalTold, NormalAnswered}
use Rattle.normalize_answers.specs.declared.written.Written.{Written}
use Rattle.normalize_answers.proofs.Answering.{returned}
use Rattle.refusals.specs.declared.refusal.Refusal.{Refusal}
use Rattle.std.specs.Prelude.{Result}
use Rattle.normalize.specs.Served.{Keeps, LooserFolds, Normalized}

module _ (text : List ℕ) (cap : ℕ) {out out' : List ℕ} (size : ℕ) {r : NormalizeSelfLoopsResult} where
  -- an answer of number 0 is the definition's text, and it stands at the front of the output
  pub accepted : (o : Normal) → normalize text cap (length out) size ≡ o → NormalAnswered out out' r o → r.answer.number ≡ 0
      → normalize text cap (length out) size ≡ normal (take r.answer.length out') (counters r.stats)
  unfolding outcome_of stats_of answer_of output_of
  accepted (Normal.refusal q) e a z =
      let n = normalize_numbers text cap (length out) size q e in
      let same : r.answer.number ≡ q.number = ap (λ x. x.number) a.answer in
      absurd (omega (arith, n.0))
  accepted (normal bs st) e a z =
      let long : r.answer.length ≡ length bs = ap (λ x. x.length) a.answer in
      e ∙ rw (a.output, a.stats, long, take-append_seam)

  pub keeps : NormalAnswered out out' r (normalize text cap (length out) size) → r.answer.number ≡ 0 → Keeps text cap (take r.answer.length out') (counters r.stats)
  keeps a z =
      let (before, reads, after, s) = normalize_sound text cap (length out) size _ _ (accepted (normalize text cap (length out) size) refl a z) in
      record { before = before; after = after; reads = reads; kept = s.kept; counted = s.counted }

  -- it folds no more than an accepted call with a looser cap
  pub folds : NormalAnswered out out' r (normalize text cap (length out) size) → r.answer.number ≡ 0 → (d room words : ℕ) (output : List ℕ) (st : Stats)
      → looser cap d ≡ true → normalize text d room words ≡ normal output st → LooserFolds text cap d (take r.answer.length out') output
  folds a z d room words output st l e =
      let here = accepted (normalize text cap (length out) size) refl a z in
      record { monotone = λ es after-c after-d reads reads-c reads-d. normalize_monotone text cap d (length out) room size words _ _ _ _ l here e es after-c after-d reads reads-c reads-d }

  -- the call as it is returned, once the work area is cleared, however it was left
  pub normalized : {work' : List ℕ} (k : Result Written Refusal) (mid : List ℕ) → NormalTold out out' k (normalize text cap (length out) size) → ReturnedIs k r
      → work' ≡ replicate (length mid) 0 → length mid ≡ size → Normalized text cap out out' size work' r
  normalized k mid h i e l =
      let a = returned k h i in
      record { answer = a.answer; stats = a.stats; output = a.output; cleared = e ∙ rw l; kept = keeps a; folds = folds a }

-- a call with an equal cap
pub capped : {text out out' work' : List ℕ} {c cap size : ℕ} {r : NormalizeSelfLoopsResult} → c ≡ cap → Normalized text c out out' size work' r → Normalized text cap out out' size work' r
capped e h = rw e at h

-- ---- two calls

-- Demand 3, looser caps fold at least as much: of two accepted calls on one text, whatever room and whatever work area was lent to each and whatever
-- these held.
pub calls-monotone : (text : List ℕ) (c d : ℕ) {out-c out-c' out-d out-d' work-c' work-d' : List ℕ} {size-c size-d : ℕ} {r q : NormalizeSelfLoopsResult} → looser c d ≡ true
    → Normalized text c out-c out-c' size-c work-c' r → r.answer.number ≡ 0
    → Normalized text d out-d out-d' size-d work-d' q → q.answer.number ≡ 0
    → LooserFolds text c d (take r.answer.length out-c') (take q.answer.length out-d')
calls-monotone text c d {out-d = out-d} {size-d = size-d} loose h y k z =
    let there = accepted text d size-d (normalize text d (length out-d) size-d) refl (record { answer = k.answer; stats = k.stats; output = k.output }) z in
    h.folds y d (length out-d) size-d _ _ loose there
