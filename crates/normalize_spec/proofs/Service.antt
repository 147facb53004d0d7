-- What every accepted normalization keeps: the third demand, of the service itself. Assumes nothing.
use Prim.Native.Nat.{ℕ, ◌≤◌}
use native.Mathlib.Omega.{arith}
use mathlib.Core.Bool.{true, false}
use mathlib.Core.List.{List}
use Rattle.std.specs.Prelude.{Option, None, Some}
use mathlib.Core.Path.{◌≡◌, refl}
use lib.Dec.{ltb}
use lib.ListN.{length}
use borrow.Author.Tests.{ltb-false, le-ltb}
use Rattle.gfa_spec.specs.Bytes.{is_empty}
use Rattle.gfa_spec.specs.Reading.{Entry, parsed, parse}
use Rattle.gfa_spec.specs.Records.{paths}
use Rattle.gfa_spec.specs.Calls.{Refusal, Input, entries, input}
use Rattle.gfa_spec.proofs.Tests.{by_test}
use Rattle.gfa_spec.proofs.Admission.{Admitted, input_entries, entries_input}
use Rattle.gfa_spec.specs.Services.{bad_step}
use Rattle.normalize_spec.specs.Folding.{folded}
use Rattle.normalize_spec.specs.Writing.{rewritten}
use Rattle.normalize_spec.specs.Counting.{Stats, unchanged, rewritten_stats}
use Rattle.normalize_spec.specs.Services.{Normal, normal, fold, normalize_entries, normal_fitted, normalize}
use Rattle.normalize_spec.specs.Guarantees.{looser, Kept, Counted, Monotone}
use Rattle.normalize_spec.proofs.Reread.{reread}
use Rattle.normalize_spec.proofs.Counters.{counted_rewritten, counted_unchanged}
use Rattle.normalize_spec.proofs.Demand.{spelling_unchanged, fold_accepts, kept_folded, kept_unchanged, monotone}

-- ---- what an accepted normalization wrote

-- Either none is folded and the text is returned, or some segment is folded, no step is bad and the text is rewritten.
pub data AcceptedAs (text : List ℕ) (cap : ℕ) (es : List Entry) : List ℕ → Stats → Type 0 where
  returned : is_empty (folded es cap) ≡ true → AcceptedAs text cap es text (unchanged es)
  rewrote : is_empty (folded es cap) ≡ false → bad_step es (paths es) ≡ None → AcceptedAs text cap es (rewritten es cap) (rewritten_stats es cap)

-- a refusal is no answer
pub not_normal : {r : Refusal} {output : List ℕ} {st : Stats} → Normal.refusal r ≡ normal output st → ⊥
not_normal e = let z : ◌≡◌ {A = ℕ} 0 1 = cc in omega arith

-- an answer that is given is the one at hand
given : {text : List ℕ} {cap : ℕ} {es : List Entry} (o : List ℕ) (s : Stats) (output : List ℕ) (st : Stats) → AcceptedAs text cap es o s
    → normal o s ≡ normal output st → AcceptedAs text cap es output st
given o s output st a e =
    let same_text : o ≡ output = cc in
    let same-stats : s ≡ st = cc in
    rw (same_text, same-stats) at a

-- what fits was the answer, and had room
fitted_normal : (room : ℕ) (n : Normal) (output : List ℕ) (st : Stats) → normal_fitted room n ≡ normal output st → (n ≡ normal output st) × (length output ≤ room)
unfolding normal_fitted
fitted_normal room (Normal.refusal r) output st e = absurd (not_normal e)
fitted_normal room (normal o s) output st e =
    by_test (ltb room (length o))
    (λ h. absurd (not_normal (rw h at e)))
    (λ h. let same_text : o ≡ output = cc (rw h at e) in (rw h at e, rw same_text at (ltb-false room (length o) h)))

-- a folding that was accepted
fold_normal : (text : List ℕ) (cap : ℕ) (es : List Entry) (output : List ℕ) (st : Stats) (o : Option Refusal) → is_empty (folded es cap) ≡ false
    → bad_step es (paths es) ≡ o → fold es cap o ≡ normal output st → AcceptedAs text cap es output st
unfolding fold
fold_normal text cap es output st (Some r) some-folded b e = absurd (not_normal e)
fold_normal text cap es output st None some-folded b e =
    given (rewritten es cap) (rewritten_stats es cap) output st (rewrote some-folded b) (rw (spelling_unchanged es cap b) at e)

-- the answer to admitted entries
pub entries_answer : (text : List ℕ) (cap : ℕ) (es : List Entry) (output : List ℕ) (st : Stats) → normalize_entries text cap (entries es) ≡ normal output st
    → AcceptedAs text cap es output st
unfolding normalize_entries
entries_answer text cap es output st e =
    by_test (is_empty (folded es cap))
    (λ h. given text (unchanged es) output st (returned h) (rw h at e))
    (λ h. fold_normal text cap es output st (bad_step es (paths es)) h refl (rw h at e))

-- and back
pub answer_entries : (text : List ℕ) (cap : ℕ) (es : List Entry) (output : List ℕ) (st : Stats) → AcceptedAs text cap es output st
    → normalize_entries text cap (entries es) ≡ normal output st
unfolding normalize_entries
answer_entries text cap es output st (returned none-folded) = rw none-folded
answer_entries text cap es output st (rewrote some-folded good) = rw some-folded (fold_accepts es cap good)

-- an input that is answered is admitted
input_normal : (text : List ℕ) (cap : ℕ) (i : Input) (output : List ℕ) (st : Stats) → normalize_entries text cap i ≡ normal output st
    → (es : List Entry) × (i ≡ entries es) × AcceptedAs text cap es output st
unfolding normalize_entries
input_normal text cap (Input.refusal r) output st e = absurd (not_normal e)
input_normal text cap (entries es) output st e = (es, refl, entries_answer text cap es output st e)

-- What an accepted normalization says: its text was admitted, its output answers it, and there was room.
pub record Accepted (text : List ℕ) (cap room work : ℕ) (output : List ℕ) (st : Stats) (es : List Entry) : Type 0 where
  pub admitted : Admitted text work es
  pub answer : AcceptedAs text cap es output st
  pub roomy : length output ≤ room

-- an accepted normalization
pub normalize_accepted : (text : List ℕ) (cap room work : ℕ) (output : List ℕ) (st : Stats) → normalize text cap room work ≡ normal output st
    → (es : List Entry) × Accepted text cap room work output st es
unfolding normalize
normalize_accepted text cap room work output st e =
    let (n, r) = fitted_normal room (normalize_entries text cap (input text work)) output st e in
    let (es, i, a) = input_normal text cap (input text work) output st n in
    (es, record { admitted = input_entries text work es i; answer = a; roomy = r })

-- and such a normalization is accepted
pub normalize_accepts : (text : List ℕ) (cap room work : ℕ) (output : List ℕ) (st : Stats) (es : List Entry) → Accepted text cap room work output st es
    → normalize text cap room work ≡ normal output st
unfolding normalize normal_fitted
normalize_accepts text cap room work output st es a =
    rw (entries_input text work es a.admitted, answer_entries text cap es output st a.answer, le-ltb room (length output) a.roomy)

-- rule 3: where none is folded, the text is accepted and returned byte for byte
pub rule_3 : (text : List ℕ) (cap room work : ℕ) (es : List Entry) → Admitted text work es → is_empty (folded es cap) ≡ true → length text ≤ room
    → normalize text cap room work ≡ normal text (unchanged es)
rule_3 text cap room work es a none-folded roomy = normalize_accepts text cap room work text (unchanged es) es (record { admitted = a; answer = returned none-folded; roomy = roomy })

-- ---- the third demand

-- What an accepted normalization keeps, with its counters, of entries and of the entries of its output.
pub record Guaranteed (es : List Entry) (cap : ℕ) (output : List ℕ) (st : Stats) (after : List Entry) : Type 0 where
  pub kept : Kept es cap output after
  pub counted : Counted es after st

-- every answer keeps the third demand
answer_sound : (text : List ℕ) (cap work : ℕ) (es : List Entry) (output : List ℕ) (st : Stats) → Admitted text work es → AcceptedAs text cap es output st
    → (after : List Entry) × Guaranteed es cap output st after
answer_sound text cap work es output st a (returned none-folded) =
    (es, record { kept = kept_unchanged es cap text none-folded a.clean a.reads; counted = counted_unchanged es })
answer_sound text cap work es output st a (rewrote some-folded good) =
    let (after, r) = reread text es cap a.clean a.reads in
    (after, record { kept = kept_folded es cap (rewritten es cap) after r good; counted = counted_rewritten es cap (rewritten es cap) after r })

-- an accepted normalization keeps the third demand, and counts what it wrote
pub normalize_sound : (text : List ℕ) (cap room work : ℕ) (output : List ℕ) (st : Stats) → normalize text cap room work ≡ normal output st
    → (es : List Entry) × (parse text ≡ parsed es) × (after : List Entry) × Guaranteed es cap output st after
normalize_sound text cap room work output st e =
    let (es, a) = normalize_accepted text cap room work output st e in
    let (after, s) = answer_sound text cap work es output st a.admitted a.answer in
    (es, a.admitted.reads, after, s)

-- every accepted normalization keeps the third demand
pub normalize_keeps : (text : List ℕ) (cap room work : ℕ) (output : List ℕ) (st : Stats) → normalize text cap room work ≡ normal output st
    → (es : List Entry) × (parse text ≡ parsed es) × (after : List Entry) × Kept es cap output after
normalize_keeps text cap room work output st e =
    let (es, reads, after, s) = normalize_sound text cap room work output st e in
    (es, reads, after, s.kept)

-- whatever the entries of the text and of the output are, they are those
normalize_of : (text : List ℕ) (cap room work : ℕ) (output : List ℕ) (st : Stats) → normalize text cap room work ≡ normal output st
    → (es after : List Entry) → parse text ≡ parsed es → parse output ≡ parsed after → Guaranteed es cap output st after
normalize_of text cap room work output st e es after reads rereads =
    let (ds, reads', after', s) = normalize_sound text cap room work output st e in
    let same-input : ds ≡ es = cc in
    let rereads' : parse output ≡ parsed after' = s.kept.reads in
    let same-output : after' ≡ after = cc in
    rw (same-input, same-output) at s

-- the counters of an accepted normalization are counts of its input and of its output, read again
pub normalize_counts : (text : List ℕ) (cap room work : ℕ) (output : List ℕ) (st : Stats) → normalize text cap room work ≡ normal output st
    → (es after : List Entry) → parse text ≡ parsed es → parse output ≡ parsed after → Counted es after st
normalize_counts text cap room work output st e es after reads rereads = (normalize_of text cap room work output st e es after reads rereads).counted

-- of two accepted normalizations of one text, the one under the looser cap folds no fewer segments and leaves no more steps
pub normalize_monotone : (text : List ℕ) (c d room room' work work' : ℕ) (output-c output-d : List ℕ) (st-c st-d : Stats) → looser c d ≡ true
    → normalize text c room work ≡ normal output-c st-c → normalize text d room' work' ≡ normal output-d st-d
    → (es after-c after-d : List Entry) → parse text ≡ parsed es → parse output-c ≡ parsed after-c → parse output-d ≡ parsed after-d
    → Monotone es c d after-c after-d
normalize_monotone text c d room room' work work' output-c output-d st-c st-d loose e f es after-c after-d reads reads-c reads-d =
    monotone es c d output-c output-d after-c after-d loose
    (normalize_of text c room work output-c st-c e es after-c reads reads-c).kept
    (normalize_of text d room' work' output-d st-d f es after-d reads reads-d).kept
