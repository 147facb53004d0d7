-- The report is answered. Assumes nothing.
use Prim.Native.Nat.{ℕ}
use mathlib.Core.List.{List}
use mathlib.Core.Path.{◌≡◌, ap, ◌∙◌}
use lib.ListN.{length}
use Rattle.std.specs.Prelude.{Result, Ok, Err}
use Rattle.refusals.specs.declared.refusal.Refusal.{Refusal}
use Rattle.gfa_spec.specs.Calls.{fitted}
use Rattle.gfa_spec.specs.Runs.{step_count}
use Rattle.gfa_spec.proofs.Admission.{input_entries}
use Rattle.tables.specs.declared.tables.Bases.{Bases}
use Rattle.tables.specs.declared.tables.Counts.{Counts}
use Rattle.tables.specs.Entries.{entries_at}
use Rattle.tables.specs.Tables.{Readable}
use Rattle.tables.proofs.Standing.{readable}
use Rattle.reader.specs.Inputs.{InputRead, InputIs}
use Rattle.reader.specs.Served.{answer_in, Answered}
use Rattle.reader.proofs.Serving.{refuses, was_read}
use Rattle.runs.proofs.Totals.{over_entries}
use Rattle.tally.specs.Tabled.{Tabled}
use Rattle.report_spec.specs.Services.{report_entries, report_text}
use Rattle.report.specs.declared.totals.Totals.{Totals}
use Rattle.report.specs.Totals.{Ranked, TotalsIs, report_from, Reportable}
use Rattle.report.proofs.Reported.{EntriesAre, ranked_readable, report_is}
use Rattle.report.proofs.Answering.{ranked_reportable}

-- the text is refused
pub report_refused : {text before work out : List ℕ} {r : Result (Bases × Counts) Refusal} {q : Refusal} (top : ℕ) → InputIs text before work r → r ≡ Err q
    → Answered out out (answer_in (Err q)) (report_text text top (length out) (length before))
unfolding report_text report_entries
report_refused {text} {before} {out = out} {q = q} top h e =
    refuses q (report_text text top (length out) (length before)) (ap (report_entries top (length out)) (rw e at h.says))

module _ {text before w : List ℕ} {b : Bases} {n : Counts} (h : InputRead text before w b n) where
  entered : EntriesAre (entries_at text w b n.lines) text w b n
  entered = record { of_segments = h.tables.of_segments; of_links = h.tables.of_links; of_paths = h.tables.of_paths }

  read_tabled : Tabled text w b n
  read_tabled =
      let a = input_entries text (length before) (entries_at text w b n.lines) h.read in
      record { readable = readable h.tables; short = a.short; visits = over_entries h.tables length ∙ (unfold step_count in h.tables.visits) }

module _ {text before w : List ℕ} {k : Result (Bases × Counts) Refusal} {b : Bases} {n : Counts} (i : InputIs text before w k) (e : k ≡ Ok (b, n)) where
  pub input_tabled : Tabled text w b n
  input_tabled = read_tabled (was_read i e)

  pub ranked_input : {w' : List ℕ} {m : ℕ} → Ranked text w w' b n m → Readable text w' b n
  ranked_input r = ranked_readable (entered (was_read i e)) input_tabled r

  pub input_reportable : {w' : List ℕ} {m : ℕ} → Ranked text w w' b n m → Reportable text w' b n m
  input_reportable r = ranked_reportable (entered (was_read i e)) input_tabled r

  -- the report is answered
  pub report_answered : {w' out out' : List ℕ} {m : ℕ} {t : Totals} (a : Result ℕ Refusal) (top : ℕ) → TotalsIs text w b n t → Ranked text w w' b n m
      → Answered out out' (answer_in a) (fitted (length out) (report_from text w' b n m t top)) → Answered out out' (answer_in a) (report_text text top (length out) (length before))
  unfolding report_text report_entries
  report_answered a top t r z = let h = was_read i e in rw h.read (rw (report_is (entered h) (read_tabled h) r top t) at z)
